-- The tracks of a level in the die.
use Rattle.std.proofs.Common.{Option, get_or, ◌-◌, ◌≡◌, ◌⊎◌, ◌↔◌, inl, inr, ⊎_elim, ℕ, zero, suc, ◌+◌, ◌<◌, ◌≤◌, ℤ, ◌≤ℤ◌, Bool, true, false, if◌then◌else◌, List, [], ◌∷◌, ◌++◌, length, slice_get, Some, None, option_map, unwrap_or, All, Contains, refl, sym, ap, subst, ◌∙◌, arith}
use Rattle.std.proofs.lemmas.Bool.{cases_lt}
use Rattle.std.proofs.lemmas.List.{length-append, get_or_append_left, get_or-append_right}
use Rattle.std.proofs.lemmas.List.Elements.{Contains-append_left, Contains-append_right, Contains-append_cases}
use Rattle.std.proofs.lemmas.Option.{slice_get_cases, slice_get_within, slice_get-get_or, get_or_from_slice_get, same_Some, none-some}
use Rattle.rt_base.specs.declared.tech.Layer.{Layer}
use Rattle.rt_base.specs.declared.tech.Tech.{Tech}
use Rattle.track_graph.proofs.ShapeLemmas.{routing_number-below}
use Rattle.rt_base.specs.Sides.{Sides}
use Rattle.rt_base.specs.Geometry.{Holds}
use Rattle.rt_base.specs.declared.geometry.Point.{Point}
use Rattle.rt_base.specs.declared.walk.Vertex.{Vertex}
use Rattle.rt_base.proofs.Lists.{All-at}
use Rattle.track_graph.specs.declared.design.Tracks.{Tracks}
use Rattle.track_graph.specs.Levels.{TrackSystem, IsVertex, levels, number_of, layer_no, is_horizontal, line_of, along, lines_of, lines_below, positions_of}
use Rattle.pin_access.specs.Bands.{band_of}
use Rattle.pin_access.proofs.NearLemmas.{IsIn, ArePart}

-- the lines of a level are few
pub few_lines : (tracks : Tracks) (k : ℕ) → All (λ (lines : List ℤ). length lines ≤ 65536) tracks.lines → length (lines_of tracks k) ≤ 65536
few_lines tracks k few = ⊎_elim
    (λ (h : (lines : List ℤ) × (k < length tracks.lines) × (slice_get tracks.lines k ≡ Some lines) × _). subst (λ o. length (unwrap_or o []) ≤ 65536) (sym h.2) (All-at (λ (lines : List ℤ). length lines ≤ 65536) tracks.lines k h.0 few h.2))
    (λ (h : (length tracks.lines ≤ k) × (slice_get tracks.lines k ≡ None)). subst (λ o. length (unwrap_or o []) ≤ 65536) (sym h.1) (omega arith))
    (slice_get_cases tracks.lines k).1

pub few_lines_below : (tracks : Tracks) (k : ℕ) → All (λ (lines : List ℤ). length lines ≤ 65536) tracks.lines → length (lines_below tracks k) ≤ 65536
few_lines_below tracks zero few = omega arith
few_lines_below tracks (suc k) few = few_lines tracks k few

-- a point of the die, across and along
holds_by : (h : Bool) (die : Sides) (p : Point) → Holds die p ↔ (IsIn (band_of h die).across (if h then p.y else p.x) × IsIn (band_of h die).along (if h then p.x else p.y))
holds_by true die p = (λ h. ((h.low, h.high), (h.left, h.right)), λ h. record { left = h.1.0; right = h.1.1; low = h.0.0; high = h.0.1 })
holds_by false die p = (λ h. ((h.left, h.right), (h.low, h.high)), λ h. record { left = h.0.0; right = h.0.1; low = h.1.0; high = h.1.1 })

-- the vertices of a level are those on its lines in the die at its positions in the die
pub level_exactly : (g : TrackSystem) (k : ℕ) (lines below above positions : List ℤ) (v : Vertex) → k < length (levels g.tech) → ArePart lines (lines_of g.tracks k) (band_of (is_horizontal g.tech k) g.die).across → ArePart below (lines_below g.tracks k) (band_of (is_horizontal g.tech k) g.die).along → ArePart above (lines_of g.tracks (k + 1)) (band_of (is_horizontal g.tech k) g.die).along → ((z : ℤ) → Contains positions z ↔ (Contains below z ⊎ Contains above z)) → v.level ≡ k → IsVertex g v ↔ (Contains lines (line_of g.tech k v.point) × Contains positions (along g.tech k v.point))
level_exactly g k lines below above positions v within is_lines is_below is_above is_positions level =
    subst (λ (l : ℕ). IsVertex g (record { level = l; point = v.point }) ↔ (Contains lines (line_of g.tech k v.point) × Contains positions (along g.tech k v.point))) (sym level) (
      λ h.
          let in_die = (holds_by (is_horizontal g.tech k) g.die v.point).0 h.in_die in (
            (is_lines (line_of g.tech k v.point)).1 (h.on_track, in_die.0.0, in_die.0.1),
            (is_positions (along g.tech k v.point)).1 (⊎_elim
                (λ (b : Contains (lines_below g.tracks k) (along g.tech k v.point)). inl ((is_below (along g.tech k v.point)).1 (b, in_die.1.0, in_die.1.1)))
                (λ (a : Contains (lines_of g.tracks (k + 1)) (along g.tech k v.point)). inr ((is_above (along g.tech k v.point)).1 (a, in_die.1.0, in_die.1.1)))
                (Contains-append_cases (lines_below g.tracks k) (lines_of g.tracks (k + 1)) (along g.tech k v.point) h.at_position)),
          ),
      λ h.
          let line = (is_lines (line_of g.tech k v.point)).0 h.0 in
          let position = at_some (along g.tech k v.point) ((is_positions (along g.tech k v.point)).0 h.1) in
          record {
            level = within;
            in_die = (holds_by (is_horizontal g.tech k) g.die v.point).1 ((line.1, line.2), (position.1, position.2));
            on_track = line.0;
            at_position = position.0;
          },
    )
  where
    at_some : (z : ℤ) → Contains below z ⊎ Contains above z → Contains (positions_of g.tracks k) z × ((band_of (is_horizontal g.tech k) g.die).along.lo ≤ℤ z) × (z ≤ℤ (band_of (is_horizontal g.tech k) g.die).along.hi)
    at_some z h = ⊎_elim
        (λ (b : Contains below z). let p = (is_below z).0 b in (Contains-append_left (lines_below g.tracks k) (lines_of g.tracks (k + 1)) z p.0, p.1, p.2))
        (λ (a : Contains above z). let p = (is_above z).0 a in (Contains-append_right (lines_below g.tracks k) (lines_of g.tracks (k + 1)) z p.0, p.1, p.2))
        h

-- a level by the number of its layer
pub record Numbered (tech : Tech) (level n : ℕ) : Type 0 where
  pub within : level < length (levels tech)
  pub below : n < length tech.layers
  pub layer : n ≡ layer_no tech level

numbered_by : (tech : Tech) (level n : ℕ) (l : ℕ × Layer) → slice_get (levels tech) level ≡ Some l → l.0 ≡ n → Numbered tech level n
numbered_by tech level n l at is = record {
  within = slice_get_within (levels tech) level l at;
  below = omega (arith, is, routing_number-below 0 tech.layers level l.0 l.1 at);
  layer = sym is ∙ sym (ap (λ o. unwrap_or (option_map number_of o) 0) at);
}

some_number : (o : Option (ℕ × Layer)) (n : ℕ) → option_map number_of o ≡ Some n → (l : ℕ × Layer) × (o ≡ Some l) × (l.0 ≡ n)
some_number None n h = cc
some_number (Some l) n h = (l, refl, same_Some l.0 n h)

pub numbered : (tech : Tech) (level n : ℕ) (r : Option ℕ) → r ≡ Some n → r ≡ option_map number_of (slice_get (levels tech) level) → Numbered tech level n
numbered tech level n r some is =
    let l = some_number (slice_get (levels tech) level) n (sym is ∙ some) in
    numbered_by tech level n l.0 l.1 l.2

no_number : (o : Option (ℕ × Layer)) → option_map number_of o ≡ None → o ≡ None
no_number None h = refl
no_number (Some l) h = cc

pub not_numbered : (tech : Tech) (level : ℕ) (r : Option ℕ) → r ≡ None → r ≡ option_map number_of (slice_get (levels tech) level) → length (levels tech) ≤ level
not_numbered tech level r none is =
    let gone : slice_get (levels tech) level ≡ None = no_number (slice_get (levels tech) level) (sym is ∙ none) in
    ⊎_elim
    (λ (h : (l : ℕ × Layer) × (level < length (levels tech)) × (slice_get (levels tech) level ≡ Some l) × _). absurd (none-some h.0 (sym gone ∙ h.2)))
    (λ (h : (length (levels tech) ≤ level) × (slice_get (levels tech) level ≡ None)). h.0)
    (slice_get_cases (levels tech) level).1

-- one more of what stands at each place
pub each_more : {X : Type 0} → (P : ℕ → X → Type 0) (xs ys : List X) (x : X) (n : ℕ) → length xs ≡ n → ys ≡ xs ++ x ∷ [] → P n x → ((k : ℕ) (y : X) → slice_get xs k ≡ Some y → P k y) → (k : ℕ) (y : X) → slice_get ys k ≡ Some y → P k y
each_more {X} P xs ys x n size is here before k y at =
    let there : slice_get (xs ++ x ∷ []) k ≡ Some y = subst (λ (zs : List X). slice_get zs k ≡ Some y) is at in
    let inside : k < length (xs ++ x ∷ []) = slice_get_within (xs ++ x ∷ []) k y there in
    let value : get_or (xs ++ x ∷ []) k y ≡ y = get_or_from_slice_get (xs ++ x ∷ []) k y y there in
    ⊎_elim
    (λ (lt : k < length xs). before k y (slice_get-get_or xs k y lt ∙ ap (λ (z : X). Some z) (sym (get_or_append_left xs (x ∷ []) y k lt) ∙ value)))
    (λ (ge : length xs ≤ k).
    let last : k ≡ n = omega (arith, inside, length-append xs (x ∷ []), size) in
    let zero_left : k - length xs ≡ 0 = omega (arith, last, size) in
    let same : x ≡ y = sym (get_or-append_right xs (x ∷ []) (length xs) k y refl ge ∙ ap (λ (j : ℕ). get_or (x ∷ []) j y) zero_left) ∙ value in
    subst (λ (j : ℕ). P j y) (sym last) (subst (P n) same here))
    (cases_lt k (length xs))
