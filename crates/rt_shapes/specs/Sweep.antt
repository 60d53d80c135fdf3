-- How the row of a polygon at one height follows from the row below.
use Rattle.std.specs.Prelude.{◌≤ℤ◌, List, [], ◌∷◌, AllPairs}
use Rattle.rt_base.specs.declared.geometry.Point.{Point}
use Rattle.rt_shapes.specs.Polygons.{Edge}

-- where rows change: both ends of each edge, at the x of its first point
abbrev pub turns_of : List Edge → List Point
turns_of [] = []
turns_of (e ∷ es) = e.from ∷ record { x = e.from.x; y = e.to.y } ∷ turns_of es

-- lowest first
abbrev pub IsRising : List Point → Type 0
IsRising points = AllPairs (λ (p q : Point). p.y ≤ℤ q.y) points
