-- Rectangles of vias stay in range when they are turned.
use Rattle.std.proofs.Common.{ℕ, ℤ, pos, ◌-ℤ◌, arith}
use Rattle.std.proofs.lemmas.Int.{ints}
use Rattle.rt_base.specs.Sides.{Sides}
use Rattle.rt_base.specs.Geometry.{low_of, high_of}
use Rattle.rt_base.specs.Orientations.{turned, placed}
use Rattle.rt_base.specs.Ranges.{IsWithin, IsPointWithin, AreSidesWithin}
use Rattle.rt_base.specs.declared.geometry.Point.{Point}
use Rattle.rt_base.specs.declared.orient.Orient.{Orient}
use Rattle.rt_base.specs.declared.orient.Orient.TheVariants.{N, W, S, E, FN, FS, FW, FE}
use Rattle.rt_base.proofs.Ranges.{hull_within, sides_from_within, within_from_sides}

mirrored : (m : ℕ) (z : ℤ) → IsWithin m z → IsWithin m (pos 0 -ℤ z)
mirrored m z h = let s = sides_from_within m z h in within_from_sides m (pos 0 -ℤ z) (omega (arith, ints, s.0, s.1)) (omega (arith, ints, s.0, s.1))

turned_within : (m : ℕ) (o : Orient) (p : Point) → IsPointWithin m p → IsPointWithin m (turned o (pos 0) (pos 0) p)
turned_within m N p h = h
turned_within m W p h = (mirrored m p.y h.1, h.0)
turned_within m S p h = (mirrored m p.x h.0, mirrored m p.y h.1)
turned_within m E p h = (h.1, mirrored m p.x h.0)
turned_within m FN p h = (mirrored m p.x h.0, h.1)
turned_within m FS p h = (h.0, mirrored m p.y h.1)
turned_within m FW p h = (h.1, h.0)
turned_within m FE p h = (mirrored m p.y h.1, mirrored m p.x h.0)

pub placed_within : (m : ℕ) (o : Orient) (s : Sides) → AreSidesWithin m s → AreSidesWithin m (placed o (pos 0) (pos 0) s)
placed_within m o s h = hull_within m (turned o (pos 0) (pos 0) (low_of s)) (turned o (pos 0) (pos 0) (high_of s)) (turned_within m o (low_of s) (h.0, h.1)) (turned_within m o (high_of s) (h.2, h.3))
