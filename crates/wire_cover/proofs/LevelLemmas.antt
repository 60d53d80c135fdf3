-- Levels are routing layers, with the widths of these.
use Rattle.std.proofs.Common.{Bool, true, false, cond, ◌≡◌, ℕ, zero, suc, ◌+◌, ◌<◌, List, [], ◌∷◌, length, Some, None, slice_get, get_or, ◌≤◌, ⊎_elim, refl, sym, subst, arith}
use Rattle.std.proofs.lemmas.Option.{some_pair_parts, slice_get_cases}
use Rattle.rt_base.proofs.Lists.{All-at}
use Rattle.rt_base.specs.Ranges.{IsWidth}
use Rattle.rt_base.specs.declared.tech.Layer.{Layer}
use Rattle.rt_base.specs.declared.tech.Tech.{Tech}
use Rattle.track_graph.specs.Designs.{IsTech}
use Rattle.track_graph.specs.Levels.{levels, layer_no, width_of, routing_from}
use Rattle.def_wires.specs.Meaning.{width_of_layer}

-- a number below the length is the place of an element
pub some_at : {X : Type 0} → (xs : List X) (k : ℕ) → k < length xs → (x : X) × (slice_get xs k ≡ Some x)
some_at {X} xs k lt = ⊎_elim
    (λ (h : (x : X) × (k < length xs) × (slice_get xs k ≡ Some x) × (get_or xs k x ≡ x)). (h.0, h.2))
    (λ (h : (length xs ≤ k) × (slice_get xs k ≡ None)). absurd (omega (arith, h.0)))
    (slice_get_cases xs k).1

-- what holds of each element holds of the one at a place
-- a level's layer is a routing layer, at its number among all layers
record RoutingAt (n : ℕ) (ls : List Layer) (i : ℕ) (l : Layer) : Type 0 where
  place : ℕ
  number : i ≡ n + place
  routing : l.routing ≡ true
  at : slice_get ls place ≡ Some l

further : (n : ℕ) (m : Layer) (ls : List Layer) (i : ℕ) (l : Layer) → RoutingAt (n + 1) ls i l → RoutingAt n (m ∷ ls) i l
further n m ls i l h = record { place = suc h.place; number = omega (arith, h.number); routing = h.routing; at = h.at }

routing_at : (n : ℕ) (ls : List Layer) (k i : ℕ) (l : Layer) → slice_get (routing_from n ls) k ≡ Some (i, l) → RoutingAt n ls i l
routing_at n [] k i l h = cc
routing_at n (m ∷ ls) k i l h = by_kind m.routing k refl h (routing_at (n + 1) ls)
  where
    by_kind : (b : Bool) (k : ℕ) → m.routing ≡ b → slice_get (cond b ((n, m) ∷ routing_from (n + 1) ls) (routing_from (n + 1) ls)) k ≡ Some (i, l) → ((k i : ℕ) (l : Layer) → slice_get (routing_from (n + 1) ls) k ≡ Some (i, l) → RoutingAt (n + 1) ls i l) → RoutingAt n (m ∷ ls) i l
    by_kind false k is h later = further n m ls i l (later k i l h)
    by_kind true zero is h later =
        let both = some_pair_parts n i m l h in
        let same : n ≡ i = both.0 in
        record { place = 0; number = omega arith; routing = subst (λ (x : Layer). x.routing ≡ true) both.1 is; at = rw both.1 refl }
    by_kind true (suc k) is h later = further n m ls i l (later k i l h)

-- the width of a level is that of its layer
pub level_width : (W tech : Tech) (level : ℕ) → W.layers ≡ tech.layers → level < length (levels tech) → width_of_layer W (layer_no tech level) ≡ width_of tech level
level_width W tech level same lt =
    let some : (x : ℕ × Layer) × (slice_get (levels tech) level ≡ Some x) = some_at (levels tech) level lt in
    let h : RoutingAt 0 tech.layers some.0.0 some.0.1 = routing_at 0 tech.layers level some.0.0 some.0.1 some.1 in
    let number : some.0.0 ≡ h.place = omega (arith, h.number) in
    let at : slice_get tech.layers some.0.0 ≡ Some some.0.1 = subst (λ (k : ℕ). slice_get tech.layers k ≡ Some some.0.1) (sym number) h.at in
    rw (some.1, same, at, h.routing) refl

-- and it is even
pub level_is_width : (tech : Tech) (level : ℕ) → IsTech tech → level < length (levels tech) → IsWidth (width_of tech level)
level_is_width tech level ok lt =
    let some : (x : ℕ × Layer) × (slice_get (levels tech) level ≡ Some x) = some_at (levels tech) level lt in
    rw some.1 (All-at (λ (l : ℕ × Layer). IsWidth l.1.width) (levels tech) level some.0 ok.widths some.1)
