use Rattle.std.proofs.Common.{◌↔◌, ℤ, take, Any}
use Rattle.pin_access.specs.Bands.{IsIn, IsNearBand}
use Rattle.pin_access.proofs.bands.near_spans.Given as goal

abbrev pub invariant-loop-band : goal.invariant-loop-band
invariant-loop-band l = (z : ℤ) → Any (IsIn z) l.spans.items ↔ Any (IsNearBand l.reach l.line z) (take l.band-index l.bands)
