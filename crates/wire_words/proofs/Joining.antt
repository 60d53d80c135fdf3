-- The two routing layers on which there are rectangles.
use Rattle.std.proofs.Common.{◌≡◌, ◌≢◌, ◌∙◌, ℕ, ◌<◌, ◌≤◌, Bool, true, false, ltb, List, [], ◌∷◌, fold, Some, refl, ap, ◌⊎◌, inl, inr, arith, All, Any}
use Rattle.std.specs.Prelude.{◌==◌}
use Rattle.std.proofs.lemmas.Bool.{eq-eqb, ne_eqb, lt-ltb, le-ltb, both_ways}
use Rattle.std.proofs.lemmas.List.Elements.{All-head, All-tail}
use Rattle.rt_base.proofs.Lists.{Any-cases, Any-none}
use Rattle.rt_base.specs.declared.tech.Tech.{Tech}
use Rattle.track_graph.specs.Metal.{Metal}
use Rattle.def_wires.specs.declared.wiring.Joined.{Joined}
use Rattle.def_wires.specs.declared.joined.Reach.{Reach}
use Rattle.def_wires.specs.declared.joined.Reach.TheVariants.{Nowhere, One, Two}
use Rattle.def_wires.specs.Meaning.{is_routing, with_layer, with_metal, the_two, joined_by, other_of}

-- ---- which of two layers are reached

-- the lower of two, the upper, or both
reached : ℕ → ℕ → Bool → Bool → Reach
reached lower upper false false = Nowhere
reached lower upper true false = One lower
reached lower upper false true = One upper
reached lower upper true true = Two lower upper

with_lower : (lower upper : ℕ) (a b : Bool) → lower < upper → with_layer (reached lower upper a b) lower ≡ reached lower upper true b
unfolding reached
with_lower lower upper false false lt = refl
with_lower lower upper true false lt = let same : (lower == lower) ≡ true = eq-eqb lower lower refl in rw same refl
with_lower lower upper false true lt =
    let other : (lower == upper) ≡ false = ne_eqb lower upper (λ e. omega arith) in
    let less : ltb lower upper ≡ true = lt-ltb lower upper lt in
    rw (other, less) refl
with_lower lower upper true true lt = let same : (lower == lower) ≡ true = eq-eqb lower lower refl in rw same refl

with_upper : (lower upper : ℕ) (a b : Bool) → lower < upper → with_layer (reached lower upper a b) upper ≡ reached lower upper a true
unfolding reached
with_upper lower upper false false lt = refl
with_upper lower upper true false lt =
    let other : (upper == lower) ≡ false = ne_eqb upper lower (λ e. omega arith) in
    let order : lower ≤ upper = omega arith in
    let more : ltb upper lower ≡ false = le-ltb _ _ order in
    rw (other, more) refl
with_upper lower upper false true lt = let same : (upper == upper) ≡ true = eq-eqb upper upper refl in rw same refl
with_upper lower upper true true lt =
    let other : (upper == lower) ≡ false = ne_eqb upper lower (λ e. omega arith) in
    let same : (upper == upper) ≡ true = eq-eqb upper upper refl in
    rw (other, same) refl

-- on the lower of two layers, on the upper, or on no routing layer
abbrev pub IsOnOne : Tech → ℕ → ℕ → Metal → Type 0
IsOnOne reader lower upper r = (r.0.0 ≡ lower) ⊎ (r.0.0 ≡ upper) ⊎ (is_routing reader r.0.0 ≡ false)

pub record AreRouting (reader : Tech) (lower upper : ℕ) : Type 0 where
  pub order : lower < upper
  pub first : is_routing reader lower ≡ true
  pub second : is_routing reader upper ≡ true

abbrev Reaches : ℕ → Bool → List Metal → Type 0
Reaches layer a rects = (a ≡ true) ⊎ Any (λ (r : Metal). r.0.0 ≡ layer) rects

metal_lower : (reader : Tech) (lower upper : ℕ) (a b : Bool) (r : Metal) → AreRouting reader lower upper → r.0.0 ≡ lower → with_metal reader (reached lower upper a b) r ≡ reached lower upper true b
metal_lower reader lower upper a b r h e = rw (e, h.first) (with_lower lower upper a b h.order)

metal_upper : (reader : Tech) (lower upper : ℕ) (a b : Bool) (r : Metal) → AreRouting reader lower upper → r.0.0 ≡ upper → with_metal reader (reached lower upper a b) r ≡ reached lower upper a true
metal_upper reader lower upper a b r h e = rw (e, h.second) (with_upper lower upper a b h.order)

metal_none : (reader : Tech) (reach : Reach) (r : Metal) → is_routing reader r.0.0 ≡ false → with_metal reader reach r ≡ reach
metal_none reader reach r e = rw e refl

-- a first rectangle that isn't on the layer
later : (layer : ℕ) (a : Bool) (r : Metal) (rects : List Metal) → r.0.0 ≢ layer → Reaches layer a (r ∷ rects) → Reaches layer a rects
later layer a r rects ne (inl e) = inl e
later layer a r rects ne (inr any) = pick (Any-cases (λ (s : Metal). s.0.0 ≡ layer) r rects any)
  where
    pick : (r.0.0 ≡ layer) ⊎ Any (λ (s : Metal). s.0.0 ≡ layer) rects → Reaches layer a rects
    pick (inl e) = absurd (ne e)
    pick (inr more) = inr more

both_reached : (reader : Tech) (lower upper : ℕ) (a b : Bool) (rects : List Metal) → AreRouting reader lower upper → All (IsOnOne reader lower upper) rects → Reaches lower a rects → Reaches upper b rects → fold (with_metal reader) (reached lower upper a b) rects ≡ Two lower upper
unfolding reached
both_reached reader lower upper a b [] h all (inl e) (inl f) = rw (e, f) refl
both_reached reader lower upper a b [] h all (inr any) t = absurd (Any-none (λ (s : Metal). s.0.0 ≡ lower) any)
both_reached reader lower upper a b [] h all (inl e) (inr any) = absurd (Any-none (λ (s : Metal). s.0.0 ≡ upper) any)
both_reached reader lower upper a b (r ∷ rects) h all s t =
    by_kind (All-head (IsOnOne reader lower upper) r rects all) (λ a b s t. both_reached reader lower upper a b rects h (All-tail (IsOnOne reader lower upper) r rects all) s t)
  where
    by_kind : IsOnOne reader lower upper r → ((a b : Bool) → Reaches lower a rects → Reaches upper b rects → fold (with_metal reader) (reached lower upper a b) rects ≡ Two lower upper) → fold (with_metal reader) (with_metal reader (reached lower upper a b) r) rects ≡ Two lower upper
    by_kind (inl e) ih =
        let order = h.order in
        ap (λ (x : Reach). fold (with_metal reader) x rects) (metal_lower reader lower upper a b r h e) ∙ ih true b (inl refl) (later upper b r rects (λ f. omega (arith, e, f)) t)
    by_kind (inr (inl e)) ih =
        let order = h.order in
        ap (λ (x : Reach). fold (with_metal reader) x rects) (metal_upper reader lower upper a b r h e) ∙ ih a true (later lower a r rects (λ f. omega (arith, e, f)) s) (inl refl)
    by_kind (inr (inr e)) ih =
        ap (λ (x : Reach). fold (with_metal reader) x rects) (metal_none reader (reached lower upper a b) r e)
        ∙ ih a b
        (later lower a r rects (λ f. both_ways (is_routing reader r.0.0) e (ap (is_routing reader) f ∙ h.first)) s)
        (later upper b r rects (λ f. both_ways (is_routing reader r.0.0) e (ap (is_routing reader) f ∙ h.second)) t)

abbrev pub joined : ℕ → ℕ → Joined
joined lower upper = record { lower = record { 0 = lower }; upper = record { 0 = upper } }

-- the two, where each has a rectangle and no other routing layer has one
pub joined_is : (reader : Tech) (lower upper : ℕ) (rects : List Metal) → AreRouting reader lower upper → All (IsOnOne reader lower upper) rects → Any (λ (r : Metal). r.0.0 ≡ lower) rects → Any (λ (r : Metal). r.0.0 ≡ upper) rects → joined_by reader rects ≡ Some (joined lower upper)
unfolding reached
joined_is reader lower upper rects h all low high = ap the_two (both_reached reader lower upper false false rects h all (inr low) (inr high))

-- the upper is beyond the lower
pub other_is : (lower upper : ℕ) → other_of (joined lower upper) (record { 0 = lower }) ≡ Some (record { 0 = upper })
other_is lower upper = let same : (lower == lower) ≡ true = eq-eqb lower lower refl in rw same refl
