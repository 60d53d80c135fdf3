use Rattle.std.proofs.Common.{length}
use Rattle.search.proofs.Numbered.{IsNumberedTo}
use Rattle.search.proofs.whole.number_tiles.Given as goal

abbrev pub invariant-loop-tile : goal.invariant-loop-tile
invariant-loop-tile l = IsNumberedTo l.fn.tiles.items l.tiles.items l.pieces

abbrev pub decreases-loop-tile : goal.decreases-loop-tile
decreases-loop-tile l = length l.tiles.items
