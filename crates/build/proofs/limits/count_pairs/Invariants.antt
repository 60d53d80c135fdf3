use Rattle.std.proofs.Common.{◌≡◌, ◌≤◌, ◌*◌, take}
use Rattle.std.specs.Prelude.{sum_by}
use Rattle.rt_base.specs.declared.tech.Shape.{Shape}
use Rattle.build.specs.Faults.{met_count}
use Rattle.build.proofs.limits.count_pairs.Given as goal

abbrev pub invariant-loop-shape : goal.invariant-loop-shape
invariant-loop-shape l = (l.pairs ≡ sum_by (λ (s : Shape). met_count l.grid s.rect) (take l.shape-index l.shapes)) × (l.pairs ≤ 1048576 * l.shape-index)
