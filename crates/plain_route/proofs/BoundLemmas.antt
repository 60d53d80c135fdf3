-- The least of some bounds.
use Rattle.std.proofs.Common.{◌≡◌, ◌⊎◌, ⊎_elim, ℕ, ◌+◌, ◌-◌, ◌^◌, ◌≤◌, min, fold, List, [], ◌∷◌, ◌++◌, length, take, drop, All, Contains, inl, inr, sym, subst, arith}
use Rattle.std.proofs.Math.Nat.{min-le_left, min-le_right}
use Rattle.std.proofs.lemmas.List.Elements.{All-drop, Contains-append_left, Contains-append_cases, Contains-push, Contains-push_cases}
use Rattle.std.proofs.lemmas.List.{take-append-drop}
use Rattle.rt_base.proofs.Lists.{in_cons, none_in}
use Rattle.rt_base.specs.declared.walk.Vertex.{Vertex}
use Rattle.future_cost.specs.Laws.{IsNear}
use Rattle.future_cost.specs.declared.bound.Bound.{Bound}
use Rattle.track_graph.specs.declared.design.Design.{Design}
use Rattle.least_walk.specs.declared.graph.Stop.{Stop}
use Rattle.plain_route.specs.Guided.{to_hull, to_stops, IsFairBound, IsZeroAt, IsAimedAt, AreAimedAt}
use Rattle.plain_route.proofs.TurnLemmas.{at_stop}
use Rattle.plain_route.proofs.VertexLemmas.{here, there}

-- where two numbers fall by c at most, the lesser of them does
mins_fall : (a b p q c : ℕ) → a ≤ c + b → p ≤ c + q → min a p ≤ c + min b q
mins_fall a b p q c h k = omega arith

-- where each of two lists' numbers falls by c at most, the least does
least_falls : (f g : Bound → ℕ) (c a b : ℕ) (bounds : List Bound) → ((x : Bound) → Contains bounds x → f x ≤ c + g x) → a ≤ c + b → fold (λ (m : ℕ) (x : Bound). min m (f x)) a bounds ≤ c + fold (λ (m : ℕ) (x : Bound). min m (g x)) b bounds
least_falls f g c a b [] each first = first
least_falls f g c a b (x ∷ xs) each first =
    least_falls f g c (min a (f x)) (min b (g x)) xs (λ y in_list. each y (there x y xs in_list)) (mins_fall a b (f x) (g x) c first (each x (here x xs)))

-- the least is at most what it begins with
least_from : (f : Bound → ℕ) (a : ℕ) (bounds : List Bound) → fold (λ (m : ℕ) (x : Bound). min m (f x)) a bounds ≤ a
least_from f a [] = omega arith
least_from f a (x ∷ xs) =
    let rest : fold (λ (m : ℕ) (x : Bound). min m (f x)) (min a (f x)) xs ≤ min a (f x) = least_from f (min a (f x)) xs in
    omega (arith, rest, min-le_left a (f x))

-- and at most each of the numbers
least_within : (f : Bound → ℕ) (a : ℕ) (bounds : List Bound) (x : Bound) → Contains bounds x → fold (λ (m : ℕ) (x : Bound). min m (f x)) a bounds ≤ f x
least_within f a [] x c = absurd (none_in x c)
least_within f a (y ∷ ys) x c = ⊎_elim
    (λ (same : x ≡ y).
    let rest : fold (λ (m : ℕ) (x : Bound). min m (f x)) (min a (f y)) ys ≤ min a (f y) = least_from f (min a (f y)) ys in
    subst (λ (z : Bound). fold (λ (m : ℕ) (x : Bound). min m (f x)) (min a (f y)) ys ≤ f z) (sym same) (omega (arith, rest, min-le_right a (f y))))
    (λ (later : Contains ys x). least_within f (min a (f y)) ys x later)
    (in_cons y ys x c)

-- where the bounds of some hulls fall by c at most, the least of them does
pub stops_fall : (d : Design) (bounds : List Bound) (u v : Vertex) (c : ℕ) → ((b : Bound) → Contains bounds b → to_hull d b u ≤ c + to_hull d b v) → to_stops d bounds u ≤ c + to_stops d bounds v
stops_fall d bounds u v c each = least_falls (λ b. to_hull d b u) (λ b. to_hull d b v) c (2 ^ 64 - 1) (2 ^ 64 - 1) bounds each (omega arith)

-- at a stop nothing is left
pub stops_end : (d : Design) (bounds : List Bound) (s : Stop) (b : Bound) → Contains bounds b → IsZeroAt s b → to_stops d bounds s.entry.vertex ≤ s.cost
stops_end d bounds s b in_list zero =
    let least : to_stops d bounds s.entry.vertex ≤ to_hull d b s.entry.vertex = least_within (λ b. to_hull d b s.entry.vertex) (2 ^ 64 - 1) bounds b in_list in
    let none : to_hull d b s.entry.vertex ≤ s.cost = at_stop d b s.entry.vertex s.cost zero.zero (zero.turned _) in
    omega (arith, least, none)

-- bounds for some stops but for those that are left, which are near
pub record AreAimedSoFar (stops rest : List Stop) (via : ℕ) (bounds : List Bound) : Type 0 where
  pub zero : (s : Stop) → Contains stops s → Contains rest s ⊎ ((b : Bound) × Contains bounds b × IsZeroAt s b)
  pub fair : (b : Bound) → Contains bounds b → IsFairBound via b
  pub near : All (λ (s : Stop). IsNear s.entry.vertex) rest

-- with a bound for the first of those that are left
pub aimed_more : (stops rest : List Stop) (n via : ℕ) (bounds : List Bound) (b : Bound) → AreAimedSoFar stops rest via bounds → IsAimedAt (take n rest) via b → AreAimedSoFar stops (drop n rest) via (bounds ++ b ∷ [])
aimed_more stops rest n via bounds b before aimed = record {
  zero = λ s c. ⊎_elim
      (λ (left : Contains rest s). ⊎_elim
      (λ (its : Contains (take n rest) s). inr (b, Contains-push bounds b, aimed.zero s its))
      (λ (later : Contains (drop n rest) s). inl later)
      (Contains-append_cases (take n rest) (drop n rest) s (subst (λ (ss : List Stop). Contains ss s) (sym (take-append-drop n rest)) left)))
      (λ (done : (x : Bound) × Contains bounds x × IsZeroAt s x). inr (done.0, Contains-append_left bounds (b ∷ []) done.0 done.1, done.2))
      (before.zero s c);
  fair = λ x c. ⊎_elim
      (λ (was : Contains bounds x). before.fair x was)
      (λ (its : b ≡ x). subst (IsFairBound via) its aimed.fair)
      (Contains-push_cases bounds b x c);
  near = All-drop (λ (s : Stop). IsNear s.entry.vertex) n rest before.near;
}

-- in the end none are left
pub aimed_all : (stops rest : List Stop) (via : ℕ) (bounds : List Bound) → AreAimedSoFar stops rest via bounds → length rest ≡ 0 → AreAimedAt stops via bounds
aimed_all stops rest via bounds before none = record {
  zero = λ s c. ⊎_elim
      (λ (left : Contains rest s). absurd (omega (arith, none, left.1)))
      (λ (done : (b : Bound) × Contains bounds b × IsZeroAt s b). done)
      (before.zero s c);
  fair = before.fair;
}
