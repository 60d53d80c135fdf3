-- Vertices in the order of their levels, x and y.
use Rattle.std.proofs.Common.{◌≡◌, inl, inr, ℕ, ◌<◌, ℤ, ◌<ℤ◌, Bool, true, ◌&&◌, nat_eq, List, [], ◌∷◌, AllPairs, refl, ap, ◌∙◌, arith, rules}
use Rattle.std.specs.Ordering.{nat_cmp, int_cmp, int_eq, is_eq, eq_by_cmp, ordering_then, then_cmp, on, eq_of_both, MatchOrdering}
use Rattle.std.specs.declared.cmp.Ordering.{Ordering}
use Rattle.std.specs.declared.cmp.Ordering.TheVariants.{Less, Equal, Greater}
use Rattle.std.specs.Cmp.{IsTotalOrder, IsEquivalence}
use Rattle.std.specs.List.Sorted.{IsStrictlySortedBy}
use Rattle.std.proofs.lemmas.Bool.{and_parts}
use Rattle.std.proofs.lemmas.Bool.Decides.{nat_tests}
use Rattle.std.proofs.lemmas.Cmp.{ranked, int_ranked, nat_cmp_total, int_cmp_total, nat_eq_equiv, int_eq_equiv, on_total, then_total, on_equiv, and_equiv}
use Rattle.std.proofs.lemmas.List.Elements.{All-from_recursion}
use Rattle.std.proofs.lemmas.List.Kept.{AllPairs-cons}
use Rattle.rt_base.specs.declared.walk.Vertex.{Vertex}
use Rattle.pin_access.specs.EntryOrder.{IsPointBefore, IsVertexBefore}

abbrev pub vertex_cmp : Vertex → Vertex → Ordering
vertex_cmp = then_cmp (on (λ (v : Vertex). v.level) nat_cmp) (then_cmp (on (λ (v : Vertex). v.point.x) int_cmp) (on (λ (v : Vertex). v.point.y) int_cmp))

pub vertex_total : IsTotalOrder vertex_cmp
vertex_total = then_total (on_total (λ (v : Vertex). v.level) nat_cmp_total) (then_total (on_total (λ (v : Vertex). v.point.x) int_cmp_total) (on_total (λ (v : Vertex). v.point.y) int_cmp_total))

abbrev pub vertex_eq : Vertex → Vertex → Bool
vertex_eq = eq_of_both (on (λ (v : Vertex). v.level) nat_eq) (eq_of_both (on (λ (v : Vertex). v.point.x) int_eq) (on (λ (v : Vertex). v.point.y) int_eq))

pub vertex_equiv : IsEquivalence vertex_eq
vertex_equiv = and_equiv (on_equiv (λ (v : Vertex). v.level) nat_eq_equiv) (and_equiv (on_equiv (λ (v : Vertex). v.point.x) int_eq_equiv) (on_equiv (λ (v : Vertex). v.point.y) int_eq_equiv))

nat_ties : (a b : ℕ) → nat_eq a b ≡ is_eq (nat_cmp a b)
nat_ties a b = first_of (search rules, grind (arith, nat_tests))

is_eq_then : (o p : Ordering) → (is_eq o && is_eq p) ≡ is_eq (ordering_then o p)
is_eq_then Less p = refl
is_eq_then Equal p = refl
is_eq_then Greater p = refl

pub vertex_ties : (v w : Vertex) → vertex_eq v w ≡ eq_by_cmp vertex_cmp v w
vertex_ties v w =
    let level : nat_eq v.level w.level ≡ is_eq (nat_cmp v.level w.level) = nat_ties v.level w.level in
    let point = is_eq_then (int_cmp v.point.x w.point.x) (int_cmp v.point.y w.point.y) in
    ap (λ b. b && (int_eq v.point.x w.point.x && int_eq v.point.y w.point.y)) level
    ∙ ap (λ b. is_eq (nat_cmp v.level w.level) && b) point
    ∙ is_eq_then (nat_cmp v.level w.level) (ordering_then (int_cmp v.point.x w.point.x) (int_cmp v.point.y w.point.y))

int_same : (a b : ℤ) → int_eq a b ≡ true → a ≡ b
int_same a b h = by_order (int_cmp a b) (int_ranked a b (int_cmp a b) refl) h
  where
    by_order : (o : Ordering) → MatchOrdering o (a <ℤ b) (a ≡ b) (b <ℤ a) → is_eq o ≡ true → a ≡ b
    by_order Less r e = cc
    by_order Equal r e = r
    by_order Greater r e = cc

nat_same : (a b : ℕ) → nat_eq a b ≡ true → a ≡ b
nat_same a b h = grind (arith, nat_tests)

pub vertex_same : (v w : Vertex) → vertex_eq v w ≡ true → v ≡ w
vertex_same v w h =
    let parts = and_parts (nat_eq v.level w.level) (int_eq v.point.x w.point.x && int_eq v.point.y w.point.y) h in
    let point = and_parts (int_eq v.point.x w.point.x) (int_eq v.point.y w.point.y) parts.1 in
    joined v.level w.level v.point.x w.point.x v.point.y w.point.y (nat_same v.level w.level parts.0) (int_same v.point.x w.point.x point.0) (int_same v.point.y w.point.y point.1)
  where
    joined : (l m : ℕ) (a b c d : ℤ) → l ≡ m → a ≡ b → c ≡ d → ◌≡◌ {A = Vertex} (record { level = l; point = record { x = a; y = c } }) (record { level = m; point = record { x = b; y = d } })
    joined l m a b c d level x y = rw (level, x, y)

pub before_from_less : (v w : Vertex) → vertex_cmp v w ≡ Less → IsVertexBefore v w
before_from_less v w h = by_level (nat_cmp v.level w.level) (ranked v.level w.level (nat_cmp v.level w.level) refl) h
  where
    by_y : (o : Ordering) → MatchOrdering o (v.point.y <ℤ w.point.y) (v.point.y ≡ w.point.y) (w.point.y <ℤ v.point.y) → o ≡ Less → v.point.y <ℤ w.point.y
    by_y Less r e = r
    by_y Equal r e = cc
    by_y Greater r e = cc

    by_x : (o : Ordering) → MatchOrdering o (v.point.x <ℤ w.point.x) (v.point.x ≡ w.point.x) (w.point.x <ℤ v.point.x) → ordering_then o (int_cmp v.point.y w.point.y) ≡ Less → IsPointBefore v.point w.point
    by_x Less r e = inl r
    by_x Equal r e = inr (r, by_y (int_cmp v.point.y w.point.y) (int_ranked v.point.y w.point.y (int_cmp v.point.y w.point.y) refl) e)
    by_x Greater r e = cc

    by_level : (o : Ordering) → MatchOrdering o (v.level < w.level) (v.level ≡ w.level) (w.level < v.level) → ordering_then o (ordering_then (int_cmp v.point.x w.point.x) (int_cmp v.point.y w.point.y)) ≡ Less → IsVertexBefore v w
    by_level Less r e = inl r
    by_level Equal r e = inr (r, by_x (int_cmp v.point.x w.point.x) (int_ranked v.point.x w.point.x (int_cmp v.point.x w.point.x) refl) e)
    by_level Greater r e = cc

-- in a strictly sorted list each element is below all later ones
pub pairs_from_strict : (vs : List Vertex) → IsStrictlySortedBy vertex_cmp vs → AllPairs (λ v w. vertex_cmp v w ≡ Less) vs
unfolding IsStrictlySortedBy
pairs_from_strict [] h = λ i j d lt within. absurd (omega arith)
pairs_from_strict (v ∷ vs) h = AllPairs-cons (λ x y. vertex_cmp x y ≡ Less) v vs (All-from_recursion (λ y. vertex_cmp v y ≡ Less) vs h.0) (pairs_from_strict vs h.1)

pub before_from_strict : (vs : List Vertex) → IsStrictlySortedBy vertex_cmp vs → AllPairs IsVertexBefore vs
before_from_strict vs h i j d lt within = before_from_less _ _ (pairs_from_strict vs h i j d lt within)
