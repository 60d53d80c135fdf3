-- A rectangle meets at most all tiles.
use Rattle.std.proofs.Common.{◌≡◌, ℕ, ◌+◌, ◌-◌, ◌*◌, ◌<◌, ◌≤◌, ◌/◌, ◌^◌, ℤ, ◌≤ℤ◌, Fits, w64, arith}
use Rattle.std.specs.Int.{int_gap}
use Rattle.std.proofs.Math.Nat.{mul-le-mul, div-le_self}
use Rattle.std.proofs.lemmas.Int.{ints}
use Rattle.rt_base.specs.Ranges.{IsWithin, AreSidesWithin}
use Rattle.rt_base.proofs.Ranges.{sides_from_within}
use Rattle.rt_base.specs.Sides.{Sides}
use Rattle.rt_base.specs.Tiles.{side_of, count_along, columns_of, rows_of, column_of, row_of}
use Rattle.rt_base.specs.declared.grid.Grid.{Grid}
use Rattle.rt_base.proofs.Tiling.{number_along-le}
use Rattle.build.specs.Faults.{met_count}

pub columns_ordered : (g : Grid) (s : Sides) → 0 < side_of g → s.xl ≤ℤ s.xh → column_of g s.xl ≤ column_of g s.xh
columns_ordered g s some le = number_along-le g.die.xl s.xl s.xh (side_of g) (columns_of g) some le

pub rows_ordered : (g : Grid) (s : Sides) → 0 < side_of g → s.yl ≤ℤ s.yh → row_of g s.yl ≤ row_of g s.yh
rows_ordered g s some le = number_along-le g.die.yl s.yl s.yh (side_of g) (rows_of g) some le

pub column_below : (g : Grid) (z : ℤ) → column_of g z < columns_of g
column_below g z = omega arith

pub row_below : (g : Grid) (z : ℤ) → row_of g z < rows_of g
row_below g z = omega arith

pub met_le : (g : Grid) (s : Sides) → met_count g s ≤ columns_of g * rows_of g
met_le g s =
    let columns : column_of g s.xh - column_of g s.xl + 1 ≤ columns_of g = omega (arith, column_below g s.xh) in
    let rows : row_of g s.yh - row_of g s.yl + 1 ≤ rows_of g = omega (arith, row_below g s.yh) in
    mul-le-mul columns rows

within_through : (a b m : ℕ) → a ≤ b → b ≤ m → a ≤ m
within_through a b m h k = omega arith

pub met_bound : (g : Grid) (s : Sides) (ch cl rh rl m : ℕ) → ch ≡ column_of g s.xh → cl ≡ column_of g s.xl → rh ≡ row_of g s.yh → rl ≡ row_of g s.yl → columns_of g * rows_of g ≤ m → (ch - cl + 1) * (rh - rl + 1) ≤ m
met_bound g s ch cl rh rl m a b c d h = rw (a, b, c, d) (within_through (met_count g s) (columns_of g * rows_of g) m (met_le g s) h)

-- a die of the chip has not too many tiles to be counted
along_le : (len side m : ℕ) → 0 < side → len ≤ m → count_along len side ≤ m + 1
along_le len side m some le =
    let part : len / side ≤ len = div-le_self len side in
    omega (arith, part)

pub tiles_fit : (g : Grid) → 0 < side_of g → AreSidesWithin (2 ^ 30) g.die → Fits w64 (columns_of g * rows_of g)
tiles_fit g some within =
    let x : int_gap g.die.xl g.die.xh ≤ 2 ^ 31 = gap_le g.die.xl g.die.xh within.0 within.2 in
    let y : int_gap g.die.yl g.die.yh ≤ 2 ^ 31 = gap_le g.die.yl g.die.yh within.1 within.3 in
    let columns : columns_of g ≤ 2 ^ 31 + 1 = along_le (int_gap g.die.xl g.die.xh) (side_of g) (2 ^ 31) some x in
    let rows : rows_of g ≤ 2 ^ 31 + 1 = along_le (int_gap g.die.yl g.die.yh) (side_of g) (2 ^ 31) some y in
    fits_product _ (mul-le-mul columns rows)
  where
    gap_le : (a b : ℤ) → IsWithin (2 ^ 30) a → IsWithin (2 ^ 30) b → int_gap a b ≤ 2 ^ 31
    gap_le a b ha hb =
        let la = sides_from_within (2 ^ 30) a ha in
        let lb = sides_from_within (2 ^ 30) b hb in
        grind (arith, ints, la.0, la.1, lb.0, lb.1)

    fits_product : (n : ℕ) → n ≤ (2 ^ 31 + 1) * (2 ^ 31 + 1) → Fits w64 n
    fits_product n h = omega arith
