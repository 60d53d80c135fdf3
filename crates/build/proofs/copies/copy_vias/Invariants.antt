use Rattle.std.proofs.Common.{◌≡◌, take}
use Rattle.build.proofs.copies.copy_vias.Given as goal

abbrev pub invariant-loop-via : goal.invariant-loop-via
invariant-loop-via l = l.copy ≡ take l.via-index l.vias
