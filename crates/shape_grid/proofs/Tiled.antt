-- Tiles that get a shape.
use Rattle.std.proofs.Common.{◌≡◌, ℕ, ◌+◌, ◌*◌, ◌/◌, ◌%◌, ◌<◌, ◌≤◌, List, [], ◌∷◌, ◌++◌, Bool, true, false, ◌&&◌, cond, IsTrue, ◌↔◌, All, IsPermutation, length, get_or, take, filter, refl, ap, sym, ◌∙◌, inl, inr, arith}
use lib.Dec.{leb}
use borrow.Author.Tests.{leb-true, le-leb}
use Rattle.std.proofs.lemmas.Bool.{cases_lt, and_parts, false≢true}
use Rattle.std.proofs.lemmas.List.{append-nil}
use Rattle.std.proofs.lemmas.List.Elements.{filter_more}
use Rattle.std.proofs.lemmas.List.Sorted.{IsPermutation-trans, IsPermutation-cons, IsPermutation-to_front}
use Rattle.std.proofs.lemmas.Nat.{div-add-mod', mod_below, mul-le}
use Rattle.rt_base.specs.Sides.{Sides}
use Rattle.rt_base.specs.Tiles.{columns_of, column_of, row_of, side_of, Meets}
use Rattle.rt_base.specs.declared.grid.Grid.{Grid}
use Rattle.rt_base.specs.declared.tech.Shape.{Shape}
use Rattle.rt_base.proofs.Tiling.{Spans, Meets-Spans, Spans-Meets}
use Rattle.shape_grid.specs.Tiling.{Gets, IsUpright, IsTileOf}

-- the same where the conditions say the same
pub gets_same : {P Q : Type 0} (s : Shape) (before after : List Shape) → (P → Q) → (Q → P) → Gets P s before after → Gets Q s before after
gets_same s before after there back g = record { yes = λ q. g.yes (back q); no = λ none. g.no (λ p. none (there p)) }

-- a tile in the columns of a rectangle, and in its rows as far as one
pub record InRows (g : Grid) (r : Sides) (row t : ℕ) : Type 0 where
  pub left : column_of g r.xl ≤ t % columns_of g
  pub right : t % columns_of g ≤ column_of g r.xh
  pub low : row_of g r.yl ≤ t / columns_of g
  pub below : t / columns_of g < row

-- the test whether a tile spans a rectangle
unfoldable pub spans_test : Grid → ℕ → Shape → Bool
spans_test g t s =
    leb (column_of g s.rect.xl) (t % columns_of g) && leb (t % columns_of g) (column_of g s.rect.xh) && leb (row_of g s.rect.yl) (t / columns_of g) && leb (t / columns_of g) (row_of g s.rect.yh)

-- the place of a tile in its row
record Place (t columns row left right : ℕ) : Type 0 where
  is : t / columns ≡ row
  from : left ≤ t % columns
  to : t % columns ≤ right

at_place : (t columns row left right : ℕ) → 0 < columns → Place t columns row left right → (row * columns + left ≤ t) × (t < row * columns + right + 1)
at_place t columns row left right some p =
    let whole : t / columns * columns + t % columns ≡ t = div-add-mod' t columns in
    let same : t / columns * columns ≡ row * columns = ap (λ (q : ℕ). q * columns) p.is in
    (omega (arith, p.from), omega (arith, p.to))

place_of : (t columns row left right : ℕ) → 0 < columns → right < columns → row * columns + left ≤ t → t < row * columns + right + 1 → Place t columns row left right
place_of t columns row left right some less from past =
    let whole : t / columns * columns + t % columns ≡ t = div-add-mod' t columns in
    let below : t % columns < columns = mod_below t columns some in
    elim (cases_lt (t / columns) row) [
      | inl before ↦ (let most : (t / columns + 1) * columns ≤ row * columns = mul-le (t / columns + 1) columns row columns (omega arith) (omega arith) in absurd (omega arith))
      | inr from_row ↦ elim (cases_lt row (t / columns)) [
        | inl behind ↦ (let least : (row + 1) * columns ≤ t / columns * columns = mul-le (row + 1) columns (t / columns) columns (omega arith) (omega arith) in absurd (omega arith))
        | inr to_row ↦ (let is : t / columns ≡ row = omega arith in let same : t / columns * columns ≡ row * columns = ap (λ (q : ℕ). q * columns) is in record { is = is; from = omega arith; to = omega arith })
      ]
    ]

-- one more row
pub rows_next : (g : Grid) (r : Sides) (row t from past : ℕ) (s : Shape) (old mid new : List Shape) → from ≡ row * columns_of g + column_of g r.xl → past ≡ row * columns_of g + column_of g r.xh + 1 → row_of g r.yl ≤ row → Gets (InRows g r row t) s old mid → Gets ((from ≤ t) × (t < past)) s mid new → Gets (InRows g r (row + 1) t) s old new
rows_next g r row t from past s old mid new start end first rows here =
    record {
      yes = λ p. yes p;
      no = λ none. here.no (λ q. (let p = at q in none (record { left = p.from; right = p.to; low = omega (arith, p.is); below = omega (arith, p.is) }))) ∙ rows.no (λ p. none (record { left = p.left; right = p.right; low = p.low; below = omega (arith, p.below) }));
    }
  where
    some : 0 < columns_of g
    some = omega arith

    at : (from ≤ t) × (t < past) → Place t (columns_of g) row (column_of g r.xl) (column_of g r.xh)
    at q = place_of t (columns_of g) row (column_of g r.xl) (column_of g r.xh) some (omega arith) (omega (arith, q.0)) (omega (arith, q.1))

    yes : InRows g r (row + 1) t → IsPermutation (s ∷ old) new
    yes p =
        elim (cases_lt (t / columns_of g) row) [
          | inl before ↦ (
              let same : new ≡ mid = here.no (λ q. omega (arith, (at q).is)) in
              rw same (rows.yes (record { left = p.left; right = p.right; low = p.low; below = before }))
              )
          | inr from_row ↦ (
              let same : mid ≡ old = rows.no (λ q. omega (arith, q.below)) in
              let now = at_place t (columns_of g) row (column_of g r.xl) (column_of g r.xh) some (record { is = omega (arith, p.below); from = p.left; to = p.right }) in
              rw (← same) (here.yes (omega (arith, now.0), omega (arith, now.1)))
              )
        ]

-- all rows
pub rows_all : (g : Grid) (r : Sides) (row t : ℕ) (s : Shape) (old new : List Shape) → 0 < side_of g → IsUpright r → row ≡ row_of g r.yh + 1 → Gets (InRows g r row t) s old new → Gets (Meets g r t) s old new
rows_all g r row t s old new some up is gets =
    gets_same s old new (λ p. Spans-Meets g r t some up.wide up.tall (record { left = p.left; right = p.right; low = p.low; high = omega (arith, p.below) })) (λ m. (
    let p = Meets-Spans g r t some m in record { left = p.left; right = p.right; low = p.low; below = omega (arith, p.high) }
    )) gets

-- the test tells whether a tile spans a rectangle
test_spans : (g : Grid) (t : ℕ) (s : Shape) → spans_test g t s ≡ true → Spans g s.rect t
unfolding spans_test
test_spans g t s e =
    let four = and_parts _ _ e in
    let three = and_parts _ _ four.0 in
    let two = and_parts _ _ three.0 in
    record { left = leb-true _ _ two.0; right = leb-true _ _ two.1; low = leb-true _ _ three.1; high = leb-true _ _ four.1 }

spans_pass : (g : Grid) (t : ℕ) (s : Shape) → Spans g s.rect t → spans_test g t s ≡ true
unfolding spans_test
spans_pass g t s p =
    let a = le-leb _ _ p.left in
    let b = le-leb _ _ p.right in
    let c = le-leb _ _ p.low in
    let d = le-leb _ _ p.high in
    rw (a, b, c, d)

pub meets_test : (g : Grid) (t : ℕ) (s : Shape) → 0 < side_of g → IsUpright s.rect → IsTrue (spans_test g t s) ↔ Meets g s.rect t
meets_test g t s some up =
    (λ e. Spans-Meets g s.rect t some up.wide up.tall (test_spans g t s e), λ m. spans_pass g t s (Meets-Spans g s.rect t some m))

-- one more shape in a tile
pub tile_next : (g : Grid) (t : ℕ) (xs : List Shape) (i : ℕ) (x : Shape) (before after : List Shape) → 0 < side_of g → i < length xs → x ≡ get_or xs i x → IsUpright x.rect → Gets (Meets g x.rect t) x before after → IsPermutation (filter (spans_test g t) (take i xs)) before → IsPermutation (filter (spans_test g t) (take (i + 1) xs)) after
tile_next g t xs i x before after some less is up gets was = rw (filter_more (spans_test g t) xs i x less, ← is) (by_test (spans_test g t x) refl)
  where
    by_test : (b : Bool) → spans_test g t x ≡ b → IsPermutation (filter (spans_test g t) (take i xs) ++ cond (spans_test g t x) (x ∷ []) []) after
    by_test true e = rw e (
        let spans = test_spans g t x e in
        let all = filter (spans_test g t) (take i xs) in
        IsPermutation-trans _ (x ∷ all) _ (IsPermutation-to_front all x) (IsPermutation-trans _ (x ∷ before) _ (IsPermutation-cons x all before was) (gets.yes (Spans-Meets g x.rect t some up.wide up.tall spans)))
        )
    by_test false e = rw e (
        let same : after ≡ before = gets.no (λ m. false≢true (sym e ∙ spans_pass g t x (Meets-Spans g x.rect t some m))) in
        rw (append-nil (filter (spans_test g t) (take i xs)), same) was
        )
