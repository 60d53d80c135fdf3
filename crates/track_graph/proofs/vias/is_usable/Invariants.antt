use Rattle.std.proofs.Common.{ℕ, ◌<◌}
use Rattle.track_graph.specs.Designs.{IsUsableAt}
use Rattle.track_graph.proofs.vias.is_usable.Given as goal

abbrev pub invariant-loop-lower : goal.invariant-loop-lower
invariant-loop-lower l = (level : ℕ) → level < l.lower → IsUsableAt l.tech l.rects level → ⊥
