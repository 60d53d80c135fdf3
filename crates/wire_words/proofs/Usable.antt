-- A usable via: its lowest routing layer is that of a level, and it joins the layers of that level and of the next one.
use Rattle.std.proofs.Common.{◌≡◌, ◌∙◌, ℕ, zero, suc, ◌+◌, ◌<◌, ◌≤◌, true, false, List, [], ◌∷◌, length, get_or, Option, Some, None, refl, sym, ap, inl, inr, ⊎_elim, arith, slice_get, All, Any}
use Rattle.std.specs.Prelude.{◌==◌}
use Rattle.std.specs.Option.{option_map_or}
use Rattle.std.specs.List.{list_any}
use Rattle.std.proofs.lemmas.Bool.{cases_lt, eq-eqb, ne_eqb}
use Rattle.std.proofs.lemmas.List.Folds.{list_any_none, list_any-from_Any}
use Rattle.rt_base.specs.declared.tech.Layer.{Layer}
use Rattle.rt_base.specs.declared.tech.Tech.{Tech}
use Rattle.track_graph.specs.Levels.{levels, layer_no, layer_name_of}
use Rattle.track_graph.specs.Metal.{Metal, first_level_name}
use Rattle.track_graph.specs.Designs.{IsUsable}
use Rattle.def_wires.specs.Meaning.{is_routing}
use Rattle.written.specs.Wires.{first_level_no}
use Rattle.wire_words.proofs.Levels.{level_layer, numbers_of_levels, numbers_ascend, none_between}
use Rattle.wire_words.proofs.Joining.{IsOnOne, AreRouting}

-- ---- the lowest level

first_level : (ls : List (ℕ × Layer)) (rects : List Metal) (u : ℕ) (x : ℕ × Layer) → slice_get ls u ≡ Some x → ((w : ℕ) (y : ℕ × Layer) → w < u → slice_get ls w ≡ Some y → list_any (λ (r : Metal). r.0.0 == y.0) rects ≡ false) → list_any (λ (r : Metal). r.0.0 == x.0) rects ≡ true
    → (first_level_no ls rects ≡ x.0) × (first_level_name ls rects ≡ x.1.name)
first_level [] rects u x e below here = absurd cc
first_level (l ∷ ls) rects zero x e below here =
    let same : l ≡ x = cc in
    let hit : list_any (λ (r : Metal). r.0.0 == l.0) rects ≡ true = ap (λ (y : ℕ × Layer). list_any (λ (r : Metal). r.0.0 == y.0) rects) same ∙ here in
    (rw hit (ap (λ (y : ℕ × Layer). y.0) same), rw hit (ap (λ (y : ℕ × Layer). y.1.name) same))
first_level (l ∷ ls) rects (suc u) x e below here =
    let miss : list_any (λ (r : Metal). r.0.0 == l.0) rects ≡ false = below 0 l (omega arith) refl in
    let later = first_level ls rects u x e (λ w y lt at. below (suc w) y (omega arith) at) here in
    (rw miss later.0, rw miss later.1)

Any-map : {X : Type 0} (P Q : X → Type 0) (xs : List X) → ((x : X) → P x → Q x) → Any P xs → Any Q xs
Any-map P Q xs f (k, x, lt, is, h) = (k, x, lt, is, f x h)

-- the name and the number of a usable via's lowest routing layer
pub lowest_level : (tech : Tech) (rects : List Metal) (h : IsUsable tech rects) → (first_level_no (levels tech) rects ≡ layer_no tech h.0) × (first_level_name (levels tech) rects ≡ layer_name_of tech h.0)
lowest_level tech rects h =
    let l = level_layer tech h.0 (omega (arith, h.1.joins.upper_level)) in
    let r = first_level (levels tech) rects h.0 (layer_no tech h.0, l.0) l.1.at none here in
    (r.0, r.1 ∙ sym l.1.name)
  where
    none : (w : ℕ) (y : ℕ × Layer) → w < h.0 → slice_get (levels tech) w ≡ Some y → list_any (λ (r : Metal). r.0.0 == y.0) rects ≡ false
    none w y lt at =
        let l = level_layer tech h.0 (omega (arith, h.1.joins.upper_level)) in
        let less : y.0 < layer_no tech h.0 = numbers_ascend 0 tech.layers w h.0 y.0 (layer_no tech h.0) y.1 l.0 lt at l.1.at in
        list_any_none (λ (r : Metal). r.0.0 == y.0) rects (λ i d within.
        let above = (h.1.only i d within).0 in
        ne_eqb (get_or rects i d).0.0 y.0 (λ e. omega (arith, e, above, less)))

    here : list_any (λ (r : Metal). r.0.0 == layer_no tech h.0) rects ≡ true
    here = list_any-from_Any (λ (r : Metal). r.0.0 == layer_no tech h.0) rects (Any-map (λ (r : Metal). r.0.0 ≡ layer_no tech h.0) (λ (r : Metal). (r.0.0 == layer_no tech h.0) ≡ true) rects (λ r e. eq-eqb r.0.0 (layer_no tech h.0) e) h.1.joins.lower)

-- ---- the layers of a via

pub level_routing : (reader tech : Tech) (level : ℕ) → reader.layers ≡ tech.layers → level < length (levels tech) → is_routing reader (layer_no tech level) ≡ true
level_routing reader tech level same within =
    let l = level_layer tech level within in
    let at : slice_get reader.layers (layer_no tech level) ≡ Some l.0 = ap (λ (ls : List Layer). slice_get ls (layer_no tech level)) same ∙ l.1.layer in
    ap (λ (o : Option Layer). option_map_or (λ (x : Layer). x.routing) o false) at ∙ l.1.routing

cut_not_routing : (reader tech : Tech) (level i : ℕ) → reader.layers ≡ tech.layers → level + 1 < length (levels tech) → layer_no tech level < i → i < layer_no tech (level + 1) → is_routing reader i ≡ false
cut_not_routing reader tech level i same within above below =
    ap (λ (ls : List Layer). option_map_or (λ (x : Layer). x.routing) (slice_get ls i) false) same ∙ by_layer (slice_get tech.layers i) refl
  where
    by_layer : (o : Option Layer) → slice_get tech.layers i ≡ o → option_map_or (λ (x : Layer). x.routing) o false ≡ false
    by_layer None e = refl
    by_layer (Some l) e = none_between tech level i l within above below e

on_one : (reader tech : Tech) (level : ℕ) (r : Metal) → reader.layers ≡ tech.layers → level + 1 < length (levels tech) → (layer_no tech level ≤ r.0.0) × (r.0.0 ≤ layer_no tech (level + 1)) → IsOnOne reader (layer_no tech level) (layer_no tech (level + 1)) r
on_one reader tech level r same within (low, high) = ⊎_elim
    (λ (above : layer_no tech level < r.0.0). ⊎_elim
    (λ (below : r.0.0 < layer_no tech (level + 1)). inr (inr (cut_not_routing reader tech level r.0.0 same within above below)))
    (λ (last : layer_no tech (level + 1) ≤ r.0.0). inr (inl (omega arith)))
    (cases_lt r.0.0 (layer_no tech (level + 1))))
    (λ (first : r.0.0 ≤ layer_no tech level). inl (omega arith))
    (cases_lt (layer_no tech level) r.0.0)

pub all_on_one : (reader tech : Tech) (rects : List Metal) (h : IsUsable tech rects) → reader.layers ≡ tech.layers → All (IsOnOne reader (layer_no tech h.0) (layer_no tech (h.0 + 1))) rects
all_on_one reader tech rects h same = λ i d within. on_one reader tech h.0 (get_or rects i d) same h.1.joins.upper_level (h.1.only i d within)

pub are_routing : (reader tech : Tech) (rects : List Metal) (h : IsUsable tech rects) → reader.layers ≡ tech.layers → AreRouting reader (layer_no tech h.0) (layer_no tech (h.0 + 1))
are_routing reader tech rects h same = record {
  order = numbers_of_levels tech h.0 (h.0 + 1) (omega arith) h.1.joins.upper_level;
  first = level_routing reader tech h.0 same (omega (arith, h.1.joins.upper_level));
  second = level_routing reader tech (h.0 + 1) same h.1.joins.upper_level;
}
