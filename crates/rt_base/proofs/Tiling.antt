-- Numbers along a side of the die, and the tiles that a rectangle meets.
use Rattle.std.proofs.Common.{◌≡◌, ◌≤◌, ◌<◌, ℕ, ◌+◌, ◌*◌, ◌/◌, ◌%◌, ℤ, pos, ◌+ℤ◌, ◌≤ℤ◌, sym, ap, ◌∙◌, inl, inr, arith}
use Rattle.std.proofs.lemmas.Int.{ints}
use Rattle.std.proofs.lemmas.Bool.{cases_eq}
use Rattle.std.proofs.Math.Nat.{div-mul-le_self, mul-div_cancel, div-lt_iff_lt-mul, le-div_iff_mul-le}
use Rattle.std.proofs.lemmas.Nat.{le-div, div-mul-add, mod-mul-add, div-add-mod'}
use Rattle.std.specs.Int.{int_gap}
use Rattle.rt_base.specs.declared.grid.Grid.{Grid}
use Rattle.rt_base.specs.Sides.{Sides}
use Rattle.rt_base.specs.Tiles.{number_along, side_of, columns_of, rows_of, column_of, row_of, Meets}

-- a greater coordinate has no lesser number
pub number_along-le : (low a b : ℤ) (side count : ℕ) → 0 < side → a ≤ℤ b → number_along low a side count ≤ number_along low b side count
number_along-le low a b side count some le =
    let gaps : int_gap low a ≤ int_gap low b = grind (arith, ints) in
    let parts : int_gap low a / side ≤ int_gap low b / side = le-div (int_gap low a / side) (int_gap low b) side some (omega (arith, div-mul-le_self (int_gap low a) side)) in
    omega arith

-- a coordinate of a range that has this number
pub record At (low a b : ℤ) (side count n : ℕ) : Type 0 where
  pub z : ℤ
  pub from : a ≤ℤ z
  pub to : z ≤ℤ b
  pub number : number_along low z side count ≡ n

-- each number between those of the ends of a range is that of a coordinate in it
pub at_some : (low a b : ℤ) (side count n : ℕ) → 0 < side → a ≤ℤ b → number_along low a side count ≤ n → n ≤ number_along low b side count → At low a b side count n
at_some low a b side count n some le from to =
    elim (cases_eq (number_along low a side count) n) [
      | inl same ↦ record { z = a; from = omega (arith, ints); to = le; number = same }
      | inr other ↦ after (omega arith)
    ]
  where
    after : number_along low a side count < n → At low a b side count n
    after more =
        let before : int_gap low a / side < n = omega arith in
        let below : int_gap low a < n * side = (div-lt_iff_lt-mul some).0 before in
        let within : n ≤ int_gap low b / side = omega arith in
        let above : n * side ≤ int_gap low b = (le-div_iff_mul-le some).0 within in
        let gap : int_gap low (low +ℤ pos (n * side)) ≡ n * side = grind (arith, ints) in
        record {
          z = low +ℤ pos (n * side);
          from = grind (arith, ints);
          to = grind (arith, ints);
          number = rw (gap, mul-div_cancel n some) (omega arith);
        }

-- the column and the row of a tile lie between those of a rectangle's corners
pub record Spans (g : Grid) (s : Sides) (tile : ℕ) : Type 0 where
  pub left : column_of g s.xl ≤ tile % columns_of g
  pub right : tile % columns_of g ≤ column_of g s.xh
  pub low : row_of g s.yl ≤ tile / columns_of g
  pub high : tile / columns_of g ≤ row_of g s.yh

pub Meets-Spans : (g : Grid) (s : Sides) (tile : ℕ) → 0 < side_of g → Meets g s tile → Spans g s tile
Meets-Spans g s tile some m =
    let small : column_of g m.point.x < columns_of g = omega arith in
    let column : tile % columns_of g ≡ column_of g m.point.x = ap (λ (n : ℕ). n % columns_of g) (sym m.number) ∙ mod-mul-add (row_of g m.point.y) (columns_of g) (column_of g m.point.x) small in
    let row : tile / columns_of g ≡ row_of g m.point.y = ap (λ (n : ℕ). n / columns_of g) (sym m.number) ∙ div-mul-add (row_of g m.point.y) (columns_of g) (column_of g m.point.x) small in
    record {
      left = rw column (number_along-le g.die.xl s.xl m.point.x (side_of g) (columns_of g) some m.inside.left);
      right = rw column (number_along-le g.die.xl m.point.x s.xh (side_of g) (columns_of g) some m.inside.right);
      low = rw row (number_along-le g.die.yl s.yl m.point.y (side_of g) (rows_of g) some m.inside.low);
      high = rw row (number_along-le g.die.yl m.point.y s.yh (side_of g) (rows_of g) some m.inside.high);
    }

pub Spans-Meets : (g : Grid) (s : Sides) (tile : ℕ) → 0 < side_of g → s.xl ≤ℤ s.xh → s.yl ≤ℤ s.yh → Spans g s tile → Meets g s tile
Spans-Meets g s tile some x y h =
    let column = at_some g.die.xl s.xl s.xh (side_of g) (columns_of g) (tile % columns_of g) some x h.left h.right in
    let row = at_some g.die.yl s.yl s.yh (side_of g) (rows_of g) (tile / columns_of g) some y h.low h.high in
    let whole : tile / columns_of g * columns_of g + tile % columns_of g ≡ tile = div-add-mod' tile (columns_of g) in
    record {
      point = record { x = column.z; y = row.z };
      inside = record { left = column.from; right = column.to; low = row.from; high = row.to };
      number = rw (row.number, column.number) whole;
    }
