-- Shapes on tiles.
use Rattle.std.proofs.Common.{◌≡◌, ◌∙◌, ℕ, ◌+◌, ◌*◌, ◌<◌, ◌≤◌, Bool, true, false, IsTrue, ◌↔◌, refl, sym, arith, int_le, ◌&&◌, ◌≤ℤ◌, ℤ}
use Rattle.std.proofs.lemmas.Int.{ints}
use Rattle.std.proofs.lemmas.Bool.{and_parts}
use Rattle.std.proofs.lemmas.Nat.{mul-le}
use Rattle.std.proofs.Math.Nat.{mul_comm}
use Rattle.rt_base.specs.Tiles.{columns_of, rows_of, column_of, row_of, side_of, Meets}
use Rattle.rt_base.specs.declared.grid.Grid.{Grid}
use Rattle.rt_base.specs.declared.tech.Shape.{Shape}
use Rattle.search.specs.Views.{is_on}
use Rattle.shape_grid.specs.Tiling.{IsUpright}
use Rattle.shape_grid.proofs.Tiled.{spans_test, meets_test}

on-is : (g : Grid) (t : ℕ) (b : Shape) → is_on g t b ≡ spans_test g t b
unfolding spans_test
on-is g t b = refl

-- a shape lies on a tile where some point of it is in the tile
pub on-meets : (g : Grid) (t : ℕ) (b : Shape) → 0 < side_of g → IsUpright b.rect → IsTrue (is_on g t b) ↔ Meets g b.rect t
on-meets g t b some up =
    let test : IsTrue (spans_test g t b) ↔ Meets g b.rect t = meets_test g t b some up in
    (λ on. test.0 (sym (on-is g t b) ∙ on), λ m. on-is g t b ∙ test.1 m)

same_tests : (a b : Bool) → (IsTrue a → IsTrue b) → (IsTrue b → IsTrue a) → a ≡ b
same_tests true b there back = sym (there refl)
same_tests false true there back = back refl
same_tests false false there back = refl

-- an answer to whether they meet
pub answers-on : (g : Grid) (t : ℕ) (b : Shape) (answer : Bool) → 0 < side_of g → IsUpright b.rect → IsTrue answer ↔ Meets g b.rect t → answer ≡ is_on g t b
answers-on g t b answer some up says =
    let on : IsTrue (is_on g t b) ↔ Meets g b.rect t = on-meets g t b some up in
    same_tests answer (is_on g t b) (λ yes. on.1 (says.0 yes)) (λ yes. says.1 (on.0 yes))

-- a tile of the die on which the shape lies
pub record LiesOnSome (g : Grid) (b : Shape) : Type 0 where
  pub tile : ℕ
  pub is_tile : tile < columns_of g * rows_of g
  pub lies_on : is_on g tile b ≡ true

pub lies-on_some : (g : Grid) (b : Shape) → 0 < side_of g → IsUpright b.rect → LiesOnSome g b
lies-on_some g b some up =
    let column : column_of g b.rect.xl < columns_of g = omega arith in
    let row : row_of g b.rect.yl < rows_of g = omega arith in
    let most : (row_of g b.rect.yl + 1) * columns_of g ≤ rows_of g * columns_of g = mul-le (row_of g b.rect.yl + 1) (columns_of g) (rows_of g) (columns_of g) (omega (arith, row)) (omega arith) in
    let turned : rows_of g * columns_of g ≡ columns_of g * rows_of g = mul_comm (rows_of g) (columns_of g) in
    record {
      tile = row_of g b.rect.yl * columns_of g + column_of g b.rect.xl;
      is_tile = omega (arith, column, most, turned);
      lies_on = (on-meets g (row_of g b.rect.yl * columns_of g + column_of g b.rect.xl) b some up).1 (record {
        point = record { x = b.rect.xl; y = b.rect.yl };
        inside = record { left = omega (arith, ints); right = up.wide; low = omega (arith, ints); high = up.tall };
        number = refl;
      });
    }

-- the test of whether a shape's sides are in order
abbrev pub is_upright : Shape → Bool
is_upright b = int_le b.rect.xl b.rect.xh && int_le b.rect.yl b.rect.yh

le_test : (a b : ℤ) → a ≤ℤ b → int_le a b ≡ true
le_test a b h = grind (arith, ints)

test_le : (a b : ℤ) → int_le a b ≡ true → a ≤ℤ b
test_le a b h = grind (arith, ints)

pub upright-passes : (b : Shape) → IsUpright b.rect → is_upright b ≡ true
upright-passes b up = rw (le_test b.rect.xl b.rect.xh up.wide, le_test b.rect.yl b.rect.yh up.tall) refl

pub passes-upright : (b : Shape) → is_upright b ≡ true → IsUpright b.rect
passes-upright b e =
    let both = and_parts (int_le b.rect.xl b.rect.xh) (int_le b.rect.yl b.rect.yh) e in
    record { wide = test_le b.rect.xl b.rect.xh both.0; tall = test_le b.rect.yl b.rect.yh both.1 }
