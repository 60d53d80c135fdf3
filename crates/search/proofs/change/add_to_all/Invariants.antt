use Rattle.search.specs.Changes.{HasGained}
use Rattle.search.proofs.Changed.{IsChangedTo}
use Rattle.search.proofs.change.add_to_all.Given as goal

abbrev pub invariant-loop-i : goal.invariant-loop-i
invariant-loop-i l = IsChangedTo (HasGained l.grid l.shapes) l.i l.fn.pieces.items l.pieces.items
