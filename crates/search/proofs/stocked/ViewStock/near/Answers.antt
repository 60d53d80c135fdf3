use Rattle.std.proofs.Common.{List, filter, flat_map, subst}
use Rattle.std.specs.List.Sorted.{IsPermutation}
use Rattle.std.proofs.lemmas.List.Sorted.{IsPermutation-trans}
use Rattle.search.specs.declared.piece.Piece.{Piece}
use Rattle.search.specs.Views.{view_shapes}
use Rattle.shape_grid.specs.Stores.{is_touching}
use Rattle.search.proofs.stocked.ViewStock.near.Goals as goal

pub returns : goal.returns
returns c = record {
  are =
      IsPermutation-trans (filter (is_touching c.args.layer c.args.rect.now) (view_shapes c.args.self.now)) c.in_ok-found.found.items c.sort_unstable.new.self.items
      (subst (λ (ps : List Piece). IsPermutation (filter (is_touching c.args.layer c.args.rect.now) (flat_map (λ (p : Piece). p.tile) ps)) c.in_ok-found.found.items) c.as_slice.ensures c.in_ok-found.ensures)
      c.sort_unstable.ensures.permutation;
  sorted = c.sort_unstable.ensures.sorted;
}
