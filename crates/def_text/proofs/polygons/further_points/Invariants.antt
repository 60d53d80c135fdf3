use Rattle.std.proofs.Common.{◌^◌, length, All}
use Rattle.rt_base.specs.Ranges.{IsPointWithin}
use Rattle.rt_forms.proofs.Loops.{Until}
use Rattle.def_text.specs.Faults.{def_faults}
use Rattle.def_text.specs.Parts.{no_bracket}
use Rattle.def_text.specs.Polygons.{more_points}
use Rattle.def_text.proofs.polygons.further_points.Given as goal

abbrev pub invariant-points : goal.invariant-points
invariant-points l = record { until : Until def_faults no_bracket more_points l.points l.words l.initial.points l.initial.words; small : All (IsPointWithin (2 ^ 30)) l.points }

abbrev pub decreases-points : goal.decreases-points
decreases-points l = length l.words
