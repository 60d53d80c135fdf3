-- Placed rectangles stay in range.
use Rattle.std.proofs.Common.{ℕ, ◌+◌, ◌^◌, ℤ, ◌+ℤ◌, ◌-ℤ◌, lit≤, arith}
use Rattle.std.proofs.lemmas.Int.{ints}
use Rattle.rt_base.specs.Sides.{Sides}
use Rattle.rt_base.specs.Geometry.{low_of, high_of, moved}
use Rattle.rt_base.specs.Orientations.{turned, placed}
use Rattle.rt_base.specs.Ranges.{IsWithin, IsPointWithin, AreSidesWithin}
use Rattle.rt_base.specs.declared.geometry.Point.{Point}
use Rattle.rt_base.specs.declared.orient.Orient.{Orient}
use Rattle.rt_base.specs.declared.orient.Orient.TheVariants.{N, W, S, E, FN, FS, FW, FE}
use Rattle.rt_base.proofs.Ranges.{hull_within, sides_from_within, within_from_sides, within-weaker, sides-weaker}

-- what differs from a number in range
from_side : (m n : ℕ) (w z : ℤ) → IsWithin m w → IsWithin n z → IsWithin (m + n) (w -ℤ z)
from_side m n w z h k =
    let s = sides_from_within m w h in
    let t = sides_from_within n z k in
    within_from_sides (m + n) (w -ℤ z) (omega (arith, ints, s.0, s.1, t.0, t.1)) (omega (arith, ints, s.0, s.1, t.0, t.1))

sum_in : (m n : ℕ) (a b : ℤ) → IsWithin m a → IsWithin n b → IsWithin (m + n) (a +ℤ b)
sum_in m n a b h k =
    let s = sides_from_within m a h in
    let t = sides_from_within n b k in
    within_from_sides (m + n) (a +ℤ b) (omega (arith, ints, s.0, s.1, t.0, t.1)) (omega (arith, ints, s.0, s.1, t.0, t.1))

as_is : (m n : ℕ) (z : ℤ) → IsWithin n z → IsWithin (m + n) z
as_is m n z h = within-weaker n (m + n) z (omega arith) h

turned_within : (m n : ℕ) (o : Orient) (w h : ℤ) (p : Point) → IsWithin m w → IsWithin m h → IsPointWithin n p → IsPointWithin (m + n) (turned o w h p)
turned_within m n N w h p a b q = (as_is m n p.x q.0, as_is m n p.y q.1)
turned_within m n W w h p a b q = (from_side m n h p.y b q.1, as_is m n p.x q.0)
turned_within m n S w h p a b q = (from_side m n w p.x a q.0, from_side m n h p.y b q.1)
turned_within m n E w h p a b q = (as_is m n p.y q.1, from_side m n w p.x a q.0)
turned_within m n FN w h p a b q = (from_side m n w p.x a q.0, as_is m n p.y q.1)
turned_within m n FS w h p a b q = (as_is m n p.x q.0, from_side m n h p.y b q.1)
turned_within m n FW w h p a b q = (as_is m n p.y q.1, as_is m n p.x q.0)
turned_within m n FE w h p a b q = (from_side m n h p.y b q.1, from_side m n w p.x a q.0)

pub placed_within : (m n : ℕ) (o : Orient) (w h : ℤ) (s : Sides) → IsWithin m w → IsWithin m h → AreSidesWithin n s → AreSidesWithin (m + n) (placed o w h s)
placed_within m n o w h s a b q = hull_within (m + n) (turned o w h (low_of s)) (turned o w h (high_of s)) (turned_within m n o w h (low_of s) a b (q.0, q.1)) (turned_within m n o w h (high_of s) a b (q.2, q.3))

moved_within : (m n : ℕ) (p : Point) (s : Sides) → IsPointWithin n p → AreSidesWithin m s → AreSidesWithin (m + n) (moved p s)
moved_within m n p s h k = (sum_in m n s.xl p.x k.0 h.0, sum_in m n s.yl p.y k.1 h.1, sum_in m n s.xh p.x k.2 h.0, sum_in m n s.yh p.y k.3 h.1)

-- a rectangle of a macro, turned and moved
pub cell_within : (o : Orient) (at : Point) (w h : ℤ) (s : Sides) → IsWithin (2 ^ 30) w → IsWithin (2 ^ 30) h → IsPointWithin (2 ^ 30) at → AreSidesWithin (2 ^ 31) s → AreSidesWithin (2 ^ 32) (moved at (placed o w h s))
cell_within o at w h s a b p q =
    sides-weaker (2 ^ 30 + 2 ^ 31 + 2 ^ 30) (2 ^ 32) (moved at (placed o w h s)) (lit≤ tt) (moved_within (2 ^ 30 + 2 ^ 31) (2 ^ 30) at (placed o w h s) p (placed_within (2 ^ 30) (2 ^ 31) o w h s a b q))
