use Rattle.std.proofs.Common.{All, take}
use Rattle.rt_base.specs.declared.tech.Shape.{Shape}
use Rattle.shape_grid.specs.Tiling.{IsUpright}
use Rattle.search.proofs.change.look_at.Given as goal

abbrev pub invariant-loop-shape : goal.invariant-loop-shape
invariant-loop-shape l = All (λ (b : Shape). IsUpright b.rect) (take l.shape-index l.shapes)
