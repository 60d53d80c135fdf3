use Rattle.pin_access.proofs.CountLemmas.{AreBands}
use Rattle.pin_access.proofs.counting.bands_on.Given as goal

abbrev pub invariant-loop-metal : goal.invariant-loop-metal
invariant-loop-metal l = AreBands l.level l.rects l.metal-index l.bands.items
