use Rattle.std.proofs.Common.{take}
use Rattle.regions.proofs.TileLemmas.{AreNumbersOf}
use Rattle.regions.proofs.tiles.numbers.Given as goal

abbrev pub invariant-loop-run : goal.invariant-loop-run
invariant-loop-run l = AreNumbersOf (take l.run-index l.runs) l.tiles.items
