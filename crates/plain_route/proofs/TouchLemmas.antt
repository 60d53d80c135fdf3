-- A shape that conflicts with another touches its rectangle made larger by the spacing.
use Rattle.std.proofs.Common.{◌≡◌, ℕ, ◌+◌, ◌*◌, ◌^◌, ◌<◌, ◌≤◌, unsigned_abs, Option, Some, None, option_map, unwrap_or, slice_get, ℤ, pos, ◌-ℤ◌, ◌+ℤ◌, int_le, Bool, true, false, not, ◌&&◌, ◌==◌, length, nat_lt, refl, sym, ap, ◌∙◌, subst, arith}
use Rattle.std.specs.Int.{int_max}
use Rattle.rt_base.proofs.Lists.{All-at}
use Rattle.rt_base.specs.Ranges.{IsWithin}
use Rattle.rt_base.specs.declared.tech.Layer.{Layer}
use Rattle.rt_base.specs.declared.tech.LayerNo.{LayerNo}
use Rattle.track_graph.specs.Designs.{IsTech}
use Rattle.std.proofs.lemmas.Bool.Decides.{nat_tests}
use Rattle.std.proofs.lemmas.Int.{ints}
use Rattle.rt_base.specs.Conflict.{conflict_of, same_owner, is_near_of, largest_spacing}
use Rattle.rt_base.specs.Geometry.{gap_between, gap_x, gap_y, grown}
use Rattle.rt_base.specs.declared.tech.Shape.{Shape}
use Rattle.rt_base.specs.declared.tech.Tech.{Tech}
use Rattle.shape_grid.specs.Stores.{is_touching}

-- what a conflict means
record IsConflict (tech : Tech) (a b : Shape) : Type 0 where
  pub layer : a.layer.0 ≡ b.layer.0
  pub in_x : gap_x a.rect b.rect < largest_spacing tech a.layer
  pub in_y : gap_y a.rect b.rect < largest_spacing tech a.layer

less_by_squares : (x y s : ℕ) → nat_lt (x * x + y * y) (s * s) ≡ true → (x < s) × (y < s)
less_by_squares x y s h =
    let squares : x * x + y * y < s * s = less (x * x + y * y) (s * s) h in
    (first x y s squares, first y x s (omega (arith, squares)))
  where
    less : (m n : ℕ) → nat_lt m n ≡ true → m < n
    less m n e = grind (arith, nat_tests)

    first : (x y s : ℕ) → x * x + y * y < s * s → x < s
    first x y s h = grind arith

conflict_is : (tech : Tech) (a b : Shape) → conflict_of tech a b ≡ true → IsConflict tech a b
conflict_is tech a b h = parts (a.layer.0 == b.layer.0) (same_owner a.owner b.owner) (is_near_of (gap_x a.rect b.rect) (gap_y a.rect b.rect) (largest_spacing tech a.layer)) refl refl h
  where
    equal : (m n : ℕ) → (m == n) ≡ true → m ≡ n
    equal m n e = grind (arith, nat_tests)

    parts : (l o near : Bool) → (a.layer.0 == b.layer.0) ≡ l → is_near_of (gap_x a.rect b.rect) (gap_y a.rect b.rect) (largest_spacing tech a.layer) ≡ near → (l && not o && near) ≡ true → IsConflict tech a b
    parts true false true l near e =
        let less = less_by_squares (gap_x a.rect b.rect) (gap_y a.rect b.rect) (largest_spacing tech a.layer) near in
        record { layer = equal a.layer.0 b.layer.0 l; in_x = less.0; in_y = less.1 }
    parts true false false l near e = cc
    parts true true near_test l near e = cc
    parts false o near_test l near e = cc

-- ranges with a gap of less than s meet when the one is made longer by s
low_meets : (al ah bl bh : ℤ) (s : ℕ) → gap_between al ah bl bh < s → int_le (al -ℤ pos s) bh ≡ true
low_meets al ah bl bh s near = grind (arith, ints)

high_meets : (al ah bl bh : ℤ) (s : ℕ) → gap_between al ah bl bh < s → int_le bl (ah +ℤ pos s) ≡ true
high_meets al ah bl bh s near = grind (arith, ints)

all_true : (a b c d e : Bool) → a ≡ true → b ≡ true → c ≡ true → d ≡ true → e ≡ true → (a && b && c && d && e) ≡ true
all_true a b c d e p q r s t = rw (p, q, r, s, t) refl

-- so it is found where the store is asked for what touches the larger rectangle
pub conflict_touches : (tech : Tech) (a b : Shape) (reach : ℤ) → reach ≡ pos (largest_spacing tech a.layer) → conflict_of tech a b ≡ true → is_touching a.layer (grown a.rect reach) b ≡ true
conflict_touches tech a b reach is h =
    let c : IsConflict tech a b = conflict_is tech a b h in
    let s : ℕ = largest_spacing tech a.layer in
    subst (λ (z : ℤ). is_touching a.layer (grown a.rect z) b ≡ true) (sym is)
    (all_true (b.layer.0 == a.layer.0) _ _ _ _ (same b.layer.0 a.layer.0 (sym c.layer)) (low_meets a.rect.xl a.rect.xh b.rect.xl b.rect.xh s c.in_x) (high_meets a.rect.xl a.rect.xh b.rect.xl b.rect.xh s c.in_x) (low_meets a.rect.yl a.rect.yh b.rect.yl b.rect.yh s c.in_y) (high_meets a.rect.yl a.rect.yh b.rect.yl b.rect.yh s c.in_y))
  where
    same : (m n : ℕ) → m ≡ n → (m == n) ≡ true
    same m n e = grind (arith, nat_tests)

-- the two tests together, of a shape on a layer that there is
pub tests_as_conflict : (tech : Tech) (a b : Shape) (reach : ℤ) (counted : Bool) → reach ≡ pos (largest_spacing tech a.layer) → a.layer.0 < length tech.layers → (is_touching a.layer (grown a.rect reach) b && (nat_lt a.layer.0 (length tech.layers) && conflict_of tech a b && counted)) ≡ (conflict_of tech a b && counted)
tests_as_conflict tech a b reach counted is within =
    ap (λ (l : Bool). is_touching a.layer (grown a.rect reach) b && (l && conflict_of tech a b && counted)) (less a.layer.0 (length tech.layers) within) ∙ by_test (conflict_of tech a b) refl
  where
    less : (m n : ℕ) → m < n → nat_lt m n ≡ true
    less m n h = grind (arith, nat_tests)

    none : (t : Bool) → (t && false) ≡ false
    none true = refl
    none false = refl

    by_test : (c : Bool) → conflict_of tech a b ≡ c → (is_touching a.layer (grown a.rect reach) b && (true && c && counted)) ≡ (c && counted)
    by_test true e = ap (λ (t : Bool). t && counted) (conflict_touches tech a b reach is e)
    by_test false e = none (is_touching a.layer (grown a.rect reach) b)

-- no spacing is large
pub spacing_small : (tech : Tech) (layer : LayerNo) → IsTech tech → largest_spacing tech layer ≤ 2 ^ 32
spacing_small tech layer ok = by_case (slice_get tech.layers layer.0) refl
  where
    by_case : (o : Option Layer) → slice_get tech.layers layer.0 ≡ o → unsigned_abs (int_max (unwrap_or (option_map (λ (l : Layer). l.spacing) o) (pos 0)) (pos 1)) ≤ 2 ^ 32
    by_case None e = omega arith
    by_case (Some l) e = let h : IsWithin (2 ^ 32) l.spacing = All-at (λ (x : Layer). IsWithin (2 ^ 32) x.spacing) tech.layers layer.0 l ok.spacings e in grind (arith, ints)
