use Rattle.std.proofs.Common.{filter, take}
use Rattle.std.specs.List.{flat_map}
use Rattle.std.specs.List.Sorted.{IsPermutation}
use Rattle.search.specs.declared.piece.Piece.{Piece}
use Rattle.shape_grid.specs.Stores.{is_touching}
use Rattle.search.proofs.stocked.near_in.Given as goal

abbrev pub invariant-loop-piece : goal.invariant-loop-piece
invariant-loop-piece l = IsPermutation (filter (is_touching l.layer l.rect) (flat_map (λ (p : Piece). p.tile) (take l.piece-index l.pieces))) l.found.items
