use Rattle.search.specs.Changes.{HasGained}
use Rattle.search.specs.declared.piece.Piece.{Piece}
use Rattle.search.proofs.Changed.{IsChangedTo}
use Rattle.search.proofs.change.take_from_all.Given as goal

abbrev pub invariant-loop-i : goal.invariant-loop-i
invariant-loop-i l = IsChangedTo (λ (old new : Piece). HasGained l.grid l.shapes new old) l.i l.fn.pieces.items l.pieces.items
