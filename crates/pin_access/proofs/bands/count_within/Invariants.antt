use Rattle.pin_access.proofs.Sweeping.{Swept}
use Rattle.pin_access.proofs.bands.count_within.Given as goal

abbrev pub invariant-loop-span : goal.invariant-loop-span
invariant-loop-span l = Swept l.numbers l.spans l.span-index l.rest l.count
