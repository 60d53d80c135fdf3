use Rattle.std.proofs.Common.{◌≡◌, ◌∙◌, ◌+◌, ◌++◌, Bool, List, ap, filter, flat_map, subst, sym, take}
use Rattle.std.specs.List.Sorted.{IsPermutation}
use Rattle.std.proofs.lemmas.List.Elements.{filter-append}
use Rattle.std.proofs.lemmas.List.Sorted.{IsPermutation-append}
use Rattle.rt_base.specs.declared.tech.Shape.{Shape}
use Rattle.search.specs.declared.piece.Piece.{Piece}
use Rattle.shape_grid.specs.Stores.{is_touching}
use Rattle.shape_grid.proofs.Buckets.{all_more}
use Rattle.search.proofs.stocked.near_in.Goals as goal

pub loop-piece-preserved : goal.loop-piece-preserved
loop-piece-preserved c =
    let test : Shape → Bool = is_touching c.args.layer c.args.rect.now in
    let tile : Piece → List Shape = λ p. p.tile in
    let ps : List Piece = c.args.pieces.now in
    let i = c.loop-piece.piece-index in
    let p : Piece = c.piece-item.result in
    let before : List Shape = flat_map tile (take i ps) in
    let more : flat_map tile (take (i + 1) ps) ≡ before ++ p.tile = all_more tile ps i p c.loop-piece-test.true ∙ ap (λ (q : Piece). before ++ q.tile) (sym c.piece-item.is) in
    let parts : filter test (flat_map tile (take (i + 1) ps)) ≡ filter test before ++ filter test p.tile = ap (filter test) more ∙ filter-append test before p.tile in
    let now : c.extend_from_slice.new.self.items ≡ c.loop-piece.found.items ++ c.in_ok-near.near.items =
    c.in_ok-extend_from_slice.ensures.items ∙ ap (λ (xs : List Shape). c.loop-piece.found.items ++ xs) c.as_slice.ensures.value in
    subst (λ (xs : List Shape). IsPermutation xs c.extend_from_slice.new.self.items) (sym parts)
    (subst (λ (ys : List Shape). IsPermutation (filter test before ++ filter test p.tile) ys) (sym now)
    (IsPermutation-append (filter test before) c.loop-piece.found.items (filter test p.tile) c.in_ok-near.near.items c.loop-piece.invariant c.in_ok-near.ensures.are))
