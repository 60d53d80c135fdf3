-- Vias that a walk needs beside those between its level and the targets' levels.
use Rattle.std.specs.Prelude.{ℕ, ℤ, Bool, ◌||◌, ◌==◌, if◌then◌else◌, nat_lt, int_lt}
use Rattle.rt_base.specs.declared.geometry.Span.{Span}
use Rattle.rt_base.specs.declared.walk.Vertex.{Vertex}
use Rattle.future_cost.specs.declared.bound.Bound.{Bound}

-- a range doesn't hold z
abbrev pub is_off : Span → ℤ → Bool
is_off s z = int_lt z s.lo || int_lt s.hi z

-- the targets' range across a level's tracks doesn't hold the line that v is on
abbrev pub misses : Bound → Bool → Vertex → Bool
misses b horizontal v = if horizontal then is_off b.y v.point.y else is_off b.x v.point.x

-- from a level of the targets, off their lines, a walk has to leave the level, and to come back where it is their only one
abbrev pub turns : Bound → Bool → Vertex → ℕ
turns b horizontal v =
    if nat_lt v.level b.bottom || nat_lt b.top v.level then 0 else if misses b horizontal v then (if b.bottom == b.top then 2 else 1) else 0
