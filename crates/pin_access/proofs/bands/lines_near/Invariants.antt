use Rattle.pin_access.proofs.Banding.{IsHull}
use Rattle.pin_access.proofs.bands.lines_near.Given as goal

abbrev pub invariant-loop-band : goal.invariant-loop-band
invariant-loop-band l = IsHull l.reach l.bands l.band-index l.hull.lo l.hull.hi
