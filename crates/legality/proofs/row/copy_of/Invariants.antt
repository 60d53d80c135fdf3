use Rattle.std.proofs.Common.{◌≡◌, take}
use Rattle.legality.proofs.row.copy_of.Given as goal

abbrev pub invariant-loop-band : goal.invariant-loop-band
invariant-loop-band l = l.copies.items ≡ take l.band-index l.bands
