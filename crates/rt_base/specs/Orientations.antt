-- Orientations of placed macros, pins and vias (DEF 5.8, orientation of COMPONENTS and PINS). That FW and FE are turned so, and in this order of steps, is this project's reading.
use Rattle.std.specs.Prelude.{ℤ, ◌-ℤ◌}
use Rattle.rt_base.specs.Sides.{Sides}
use Rattle.rt_base.specs.Geometry.{hull_of, low_of, high_of}
use Rattle.rt_base.specs.declared.geometry.Point.{Point}
use Rattle.rt_base.specs.declared.orient.Orient.{Orient}
use Rattle.rt_base.specs.declared.orient.Orient.TheVariants.{N, W, S, E, FN, FS, FW, FE}

-- where a point of a macro of width w and height h comes to lie, before the macro is moved to its place
abbrev pub turned : Orient → ℤ → ℤ → Point → Point
turned N w h p = p
turned W w h p = record { x = h -ℤ p.y; y = p.x }
turned S w h p = record { x = w -ℤ p.x; y = h -ℤ p.y }
turned E w h p = record { x = p.y; y = w -ℤ p.x }
turned FN w h p = record { x = w -ℤ p.x; y = p.y }
turned FS w h p = record { x = p.x; y = h -ℤ p.y }
turned FW w h p = record { x = p.y; y = p.x }
turned FE w h p = record { x = h -ℤ p.y; y = w -ℤ p.x }

-- a rectangle is turned by its corners
abbrev pub placed : Orient → ℤ → ℤ → Sides → Sides
placed orient w h s = hull_of (turned orient w h (low_of s)) (turned orient w h (high_of s))
