-- The rules of spacing, as they hold of a state: no wire comes too near to another net's shape.
use Rattle.std.specs.Prelude.{◌≡◌, ◌++◌, false, Contains}
use Rattle.rt_base.specs.declared.tech.Shape.{Shape}
use Rattle.rt_base.specs.Conflict.{conflict_of}
use Rattle.track_graph.specs.declared.design.Design.{Design}
use Rattle.track_graph.specs.declared.history.State.{State}
use Rattle.track_graph.specs.States.{standing}

-- no standing shape conflicts with a fixed or a standing one
abbrev pub BreaksNoRule : Design → State → Type 0
BreaksNoRule d s = (a b : Shape) → Contains (standing d s) a → Contains (d.fixed ++ standing d s) b → conflict_of d.tech a b ≡ false
