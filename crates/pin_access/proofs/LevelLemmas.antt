-- Different levels have different layers.
use Rattle.std.proofs.Common.{◌≡◌, ⊎_elim, ℕ, zero, suc, ◌+◌, ◌<◌, ◌≤◌, Bool, true, false, if◌then◌else◌, List, [], ◌∷◌, length, get_or, slice_get, option_map, unwrap_or, Some, None, ap, arith}
use Rattle.std.proofs.lemmas.Bool.{cases_lt}
use Rattle.std.proofs.lemmas.Option.{slice_get_cases}
use Rattle.rt_base.specs.declared.tech.Layer.{Layer}
use Rattle.rt_base.specs.declared.tech.Tech.{Tech}
use Rattle.track_graph.specs.Levels.{routing_from, levels, number_of, layer_no}

abbrev Level : Type 0
Level = ℕ × Layer

first_number : (n : ℕ) (x : Layer) (l : Level) → Some (n, x) ≡ Some l → n ≡ l.0
first_number n x l h = ap (λ (p : Level). p.0) (let e : (n, x) ≡ l = cc in e)

numbers_above : (n : ℕ) (ls : List Layer) (i : ℕ) (l : Level) → slice_get (routing_from n ls) i ≡ Some l → n ≤ l.0
numbers_above n [] i l h = cc
numbers_above n (x ∷ xs) i l h = by_routing x.routing i h (λ k e. numbers_above (n + 1) xs k l e)
  where
    by_routing : (b : Bool) (i : ℕ) → slice_get (if b then (n, x) ∷ routing_from (n + 1) xs else routing_from (n + 1) xs) i ≡ Some l → ((k : ℕ) → slice_get (routing_from (n + 1) xs) k ≡ Some l → n + 1 ≤ l.0) → n ≤ l.0
    by_routing true zero h rest = omega (arith, first_number n x l h)
    by_routing true (suc k) h rest = omega (arith, rest k h)
    by_routing false i h rest = omega (arith, rest i h)

numbers_rise : (n : ℕ) (ls : List Layer) (i j : ℕ) (a b : Level) → i < j → slice_get (routing_from n ls) i ≡ Some a → slice_get (routing_from n ls) j ≡ Some b → a.0 < b.0
numbers_rise n [] i j a b lt h k = cc
numbers_rise n (x ∷ xs) i j a b lt h k = by_routing x.routing i j lt h k (λ p q less e f. numbers_rise (n + 1) xs p q a b less e f)
  where
    by_routing : (t : Bool) (i j : ℕ) → i < j → slice_get (if t then (n, x) ∷ routing_from (n + 1) xs else routing_from (n + 1) xs) i ≡ Some a → slice_get (if t then (n, x) ∷ routing_from (n + 1) xs else routing_from (n + 1) xs) j ≡ Some b → ((p q : ℕ) → p < q → slice_get (routing_from (n + 1) xs) p ≡ Some a → slice_get (routing_from (n + 1) xs) q ≡ Some b → a.0 < b.0) → a.0 < b.0
    by_routing true i zero lt h k rest = absurd (omega arith)
    by_routing true zero (suc q) lt h k rest = omega (arith, first_number n x a h, numbers_above (n + 1) xs q b k)
    by_routing true (suc p) (suc q) lt h k rest = rest p q (omega arith) h k
    by_routing false i j lt h k rest = rest i j lt h k

level_at : (tech : Tech) (i : ℕ) → i < length (levels tech) → (l : Level) × (slice_get (levels tech) i ≡ Some l) × (layer_no tech i ≡ l.0)
level_at tech i within = ⊎_elim
    (λ (h : (l : Level) × (i < length (levels tech)) × (slice_get (levels tech) i ≡ Some l) × (get_or (levels tech) i l ≡ l)). (h.0, h.2, ap (λ o. unwrap_or (option_map number_of o) 0) h.2))
    (λ (h : (length (levels tech) ≤ i) × (slice_get (levels tech) i ≡ None)). absurd (omega (arith, h.0)))
    (slice_get_cases (levels tech) i).1

layers_rise : (tech : Tech) (i j : ℕ) → i < j → j < length (levels tech) → layer_no tech i < layer_no tech j
layers_rise tech i j lt within =
    let a = level_at tech i (omega arith) in
    let b = level_at tech j within in
    omega (arith, a.2, b.2, numbers_rise 0 tech.layers i j a.0 b.0 lt a.1 b.1)

pub level_unique : (tech : Tech) (i j : ℕ) → i < length (levels tech) → j < length (levels tech) → layer_no tech i ≡ layer_no tech j → i ≡ j
level_unique tech i j hi hj same = ⊎_elim
    (λ (lt : i < j). absurd (omega (arith, layers_rise tech i j lt hj)))
    (λ (ge : j ≤ i). ⊎_elim
    (λ (lt : j < i). absurd (omega (arith, layers_rise tech j i lt hi)))
    (λ (le : i ≤ j). let e : i ≡ j = omega arith in e)
    (cases_lt j i))
    (cases_lt i j)
