-- Track lines are in range, and the tracks built are tracks of the technology.
use Rattle.std.proofs.Common.{◌≡◌, ◌⊎◌, ◌↔◌, ℕ, ◌+◌, ◌*◌, ◌^◌, ◌<◌, ◌≤◌, ℤ, pos, negsuc, ◌+ℤ◌, ◌*ℤ◌, ◌≤ℤ◌, ◌<ℤ◌, List, [], ◌∷◌, ◌++◌, Bool, true, false, cond, length, get_or, map, take, fold, All, Any, AllPairs, Contains, IsTrue, FitsSigned, w64, sym, ap, subst, ◌∙◌, inl, inr, arith}
use Rattle.std.specs.Int.{int_max}
use Rattle.std.specs.List.{AllZip}
use Rattle.std.proofs.Math.Nat.{mul-le-mul, mul-le-mul_right}
use borrow.Author.Tests.{ltb-true}
use Rattle.std.proofs.lemmas.Bool.{cases_lt}
use Rattle.std.proofs.lemmas.Int.{ints, fits_signed_from_abs}
use Rattle.std.proofs.lemmas.List.{length-map}
use Rattle.std.proofs.lemmas.List.Elements.{All-head, All-tail, All-map, Contains-get_or, Contains-push, Contains-push_cases, Contains-append_left}
use Rattle.std.proofs.lemmas.List.Quantifiers.{Any-push}
use Rattle.std.proofs.lemmas.List.Sums.{sum_by_push}
use Rattle.rt_base.proofs.Lists.{Any-cases, Any-none, Any-here, Any-there}
use Rattle.rt_base.specs.Ranges.{IsWithin}
use Rattle.rt_base.proofs.Ranges.{sides_from_within, within_from_sides, within-max}
use Rattle.rt_base.specs.declared.tech.Layer.{Layer}
use Rattle.rt_base.specs.declared.tech.Tech.{Tech}
use Rattle.track_graph.specs.declared.design.Tracks.{Tracks}
use Rattle.track_graph.specs.Designs.{AreTracks}
use Rattle.def_text.specs.declared.def.TrackRow.{TrackRow}
use Rattle.def_text.specs.Defs.{IsTrackRow}
use Rattle.build.specs.Lines.{HasSomeLine, IsLevel}
use Rattle.build.specs.TrackLines.{HasLine, AreLinesOf, times_used, is_used, line_count, largest_step, routing_layers}
use Rattle.build.proofs.Steps.{next}
use Rattle.build.proofs.TechLemmas.{length-levels, AllZip-length, AllZip-all}

-- so many steps
pub steps_within : (k : ℕ) (s : ℤ) → k ≤ 2 ^ 30 → pos 1 ≤ℤ s → s ≤ℤ pos (2 ^ 30) → (pos 0 ≤ℤ (pos k *ℤ s)) × ((pos k *ℤ s) ≤ℤ pos (2 ^ 60))
steps_within k (pos n) few some small =
    let le : n ≤ 2 ^ 30 = omega (arith, ints) in
    let product : k * n ≤ 2 ^ 30 * 2 ^ 30 = mul-le-mul few le in
    (omega (arith, ints), omega (arith, ints, product))
steps_within k (negsuc n) few some small = absurd (omega (arith, ints))

pub product_fits : (k : ℕ) (s : ℤ) → k ≤ 2 ^ 30 → pos 1 ≤ℤ s → s ≤ℤ pos (2 ^ 30) → FitsSigned w64 (pos k *ℤ s)
product_fits k s few some small =
    let p = steps_within k s few some small in
    let within : IsWithin (2 ^ 60) (pos k *ℤ s) = within_from_sides (2 ^ 60) (pos k *ℤ s) p.1 (omega (arith, ints, p.0)) in
    fits_signed_from_abs w64 (pos k *ℤ s) (omega (arith, within))

pub line_within : (row : TrackRow) (k : ℕ) → IsTrackRow row → k < row.count → IsWithin (2 ^ 61) (row.first +ℤ pos k *ℤ row.step)
line_within row k ok below =
    let p = steps_within k row.step (omega (arith, ok.count)) ok.ahead ok.step in
    let f = sides_from_within (2 ^ 30) row.first ok.first in
    within_from_sides (2 ^ 61) (row.first +ℤ pos k *ℤ row.step) (omega (arith, ints, p.0, p.1, f.0, f.1)) (omega (arith, ints, p.0, p.1, f.0, f.1))

-- each line of a layer is in range
lines_within : (rows : List TrackRow) (l : Layer) (zs : List ℤ) → All IsTrackRow rows → AreLinesOf rows l zs → All (IsWithin (2 ^ 61)) zs
lines_within rows l zs ok are i d lt = from_some ((are.lines (get_or zs i d)).0 (Contains-get_or zs i d lt))
  where
    from_some : HasSomeLine rows l (get_or zs i d) → IsWithin (2 ^ 61) (get_or zs i d)
    from_some (k, row, within, is, h) =
        let good : IsTrackRow row = subst IsTrackRow is (ok k row within) in
        subst (IsWithin (2 ^ 61)) (sym h.1.at) (line_within row h.1.k good h.1.below)

-- the largest step is in range
step_within : (l : Layer) (rows : List TrackRow) (most : ℤ) → IsWithin (2 ^ 32) most → All IsTrackRow rows → IsWithin (2 ^ 32) (fold (λ (m : ℤ) (row : TrackRow). cond (is_used l row) (int_max m row.step) m) most rows)
step_within l [] most h all = h
step_within l (row ∷ rows) most h all =
    let ok = All-head IsTrackRow row rows all in
    let step : IsWithin (2 ^ 32) row.step = within_from_sides (2 ^ 32) row.step (omega (arith, ints, ok.step)) (omega (arith, ints, ok.ahead)) in
    step_within l rows (cond (is_used l row) (int_max most row.step) most) (by_test (is_used l row) step) (All-tail IsTrackRow row rows all)
  where
    by_test : (b : Bool) → IsWithin (2 ^ 32) row.step → IsWithin (2 ^ 32) (cond b (int_max most row.step) most)
    by_test true s = within-max (2 ^ 32) most row.step h s
    by_test false s = h

-- the tracks of layers with at most so many lines each
pub tracks_are : (tech : Tech) (rows : List TrackRow) (tracks : Tracks) → All IsTrackRow rows → AllZip (IsLevel rows) (routing_layers tech.layers) tracks.lines → tracks.largest_step ≡ map (largest_step rows) (routing_layers tech.layers) → All (λ (l : Layer). line_count l rows ≤ 65536) (routing_layers tech.layers) → AreTracks tech tracks
tracks_are tech rows tracks ok lines steps few = record {
  line_levels = sym (AllZip-length (IsLevel rows) (routing_layers tech.layers) tracks.lines lines) ∙ sym (length-levels tech);
  step_levels = ap length steps ∙ length-map (routing_layers tech.layers) (largest_step rows) ∙ sym (length-levels tech);
  ascending = AllZip-all (IsLevel rows) (λ (l : Layer). line_count l rows ≤ 65536) (λ (zs : List ℤ). AllPairs (λ a b. a <ℤ b) zs) (λ l zs h m. h.lines.ascending) (routing_layers tech.layers) tracks.lines lines few;
  lines = AllZip-all (IsLevel rows) (λ (l : Layer). line_count l rows ≤ 65536) (λ (zs : List ℤ). All (IsWithin (2 ^ 61)) zs) (λ l zs h m. lines_within rows l zs ok h.lines) (routing_layers tech.layers) tracks.lines lines few;
  steps = subst (λ (ss : List ℤ). All (IsWithin (2 ^ 32)) ss) (sym steps) (All-map (IsWithin (2 ^ 32)) (largest_step rows) (routing_layers tech.layers) (λ k d lt. step_within (get_or (routing_layers tech.layers) k d) rows (pos 0) (omega arith) ok));
}

-- each level has at most as many lines
pub lines_few : (tech : Tech) (rows : List TrackRow) (tracks : Tracks) → AllZip (IsLevel rows) (routing_layers tech.layers) tracks.lines → All (λ (l : Layer). line_count l rows ≤ 65536) (routing_layers tech.layers) → All (λ (zs : List ℤ). length zs ≤ 65536) tracks.lines
lines_few tech rows tracks lines few = AllZip-all (IsLevel rows) (λ (l : Layer). line_count l rows ≤ 65536) (λ (zs : List ℤ). length zs ≤ 65536) (λ l zs h m. omega (arith, h.count, m)) (routing_layers tech.layers) tracks.lines lines few

-- the lines of a statement below this number
abbrev pub UpTo : TrackRow → ℕ → ℤ → Type 0
UpTo row n z = (k : ℕ) × (k < n) × (z ≡ row.first +ℤ pos k *ℤ row.step)

abbrev pub HasUpTo : List ℤ → TrackRow → ℕ → List ℤ → Type 0
HasUpTo before row n zs = (z : ℤ) → Contains zs z ↔ (Contains before z ⊎ UpTo row n z)

-- one line more
pub upto_more : (before : List ℤ) (row : TrackRow) (n : ℕ) (zs : List ℤ) (v : ℤ) → v ≡ row.first +ℤ pos n *ℤ row.step → HasUpTo before row n zs → HasUpTo before row (n + 1) (zs ++ v ∷ [])
upto_more before row n zs v is h z = (to, from)
  where
    later : Contains before z ⊎ UpTo row n z → Contains before z ⊎ UpTo row (n + 1) z
    later (inl b) = inl b
    later (inr (k, lt, e)) = inr (k, omega arith, e)

    to : Contains (zs ++ v ∷ []) z → Contains before z ⊎ UpTo row (n + 1) z
    to m = elim (Contains-push_cases zs v z m) [
      | inl old ↦ later ((h z).0 old)
      | inr same ↦ inr (n, omega arith, sym same ∙ is)
    ]

    from : Contains before z ⊎ UpTo row (n + 1) z → Contains (zs ++ v ∷ []) z
    from (inl b) = Contains-append_left zs (v ∷ []) z ((h z).1 (inl b))
    from (inr (k, lt, e)) = elim (cases_lt k n) [
      | inl below ↦ Contains-append_left zs (v ∷ []) z ((h z).1 (inr (k, below, e)))
      | inr last ↦
          let same : k ≡ n = omega arith in
          let here : v ≡ z = is ∙ ap (λ (j : ℕ). row.first +ℤ pos j *ℤ row.step) (sym same) ∙ sym e in
          subst (λ (y : ℤ). Contains (zs ++ v ∷ []) y) here (Contains-push zs v)
    ]

-- all lines of the statement
pub upto_all : (before : List ℤ) (row : TrackRow) (n : ℕ) (zs : List ℤ) → n ≡ row.count → HasUpTo before row n zs → (z : ℤ) → Contains zs z ↔ (Contains before z ⊎ HasLine row z)
upto_all before row n zs all h z = (λ m. to ((h z).0 m), λ m. (h z).1 (from m))
  where
    to : Contains before z ⊎ UpTo row n z → Contains before z ⊎ HasLine row z
    to (inl b) = inl b
    to (inr (k, lt, e)) = inr (record { k = k; below = omega arith; at = e })

    from : Contains before z ⊎ HasLine row z → Contains before z ⊎ UpTo row n z
    from (inl b) = inl b
    from (inr l) = inr (l.k, omega (arith, l.below), l.at)

Any-push_cases : {X : Type 0} → (P : X → Type 0) (xs : List X) (x : X) → Any P (xs ++ x ∷ []) → Any P xs ⊎ P x
Any-push_cases P [] x h = elim (Any-cases P x [] h) [ inl here ↦ inr here | inr none ↦ absurd (Any-none P none) ]
Any-push_cases P (y ∷ ys) x h = elim (Any-cases P y (ys ++ x ∷ []) h) [
  | inl here ↦ inl (Any-here P y ys here)
  | inr there ↦ elim (Any-push_cases P ys x there) [ inl old ↦ inl (Any-there P y ys old) | inr last ↦ inr last ]
]

Any-push_left : {X : Type 0} → (P : X → Type 0) (xs : List X) (x : X) → Any P xs → Any P (xs ++ x ∷ [])
Any-push_left P [] x h = absurd (Any-none P h)
Any-push_left P (y ∷ ys) x h = elim (Any-cases P y ys h) [
  | inl here ↦ Any-here P y (ys ++ x ∷ []) here
  | inr there ↦ Any-there P y (ys ++ x ∷ []) (Any-push_left P ys x there)
]

-- the lines of one statement more
abbrev pub HasLines : List TrackRow → Layer → List ℤ → Type 0
HasLines rows l zs = (z : ℤ) → Contains zs z ↔ HasSomeLine rows l z

abbrev pub OneLine : Layer → TrackRow → ℤ → Type 0
OneLine l row z = IsTrue (is_used l row) × HasLine row z

pub lines_more : (rows : List TrackRow) (i : ℕ) (row : TrackRow) (l : Layer) (zs ws : List ℤ) → i < length rows → row ≡ get_or rows i row → is_used l row ≡ true → HasLines (take i rows) l zs → ((z : ℤ) → Contains ws z ↔ (Contains zs z ⊎ HasLine row z)) → HasLines (take (i + 1) rows) l ws
lines_more rows i row l zs ws within at used h g z =
    subst (λ (rs : List TrackRow). Contains ws z ↔ HasSomeLine rs l z) (sym (next rows i row within at)) (λ m. to ((g z).0 m), λ m. (g z).1 (from (Any-push_cases (λ (r : TrackRow). OneLine l r z) (take i rows) row m)))
  where
    to : Contains zs z ⊎ HasLine row z → HasSomeLine (take i rows ++ row ∷ []) l z
    to (inl old) = Any-push_left (λ (r : TrackRow). OneLine l r z) (take i rows) row ((h z).0 old)
    to (inr line) = Any-push (λ (r : TrackRow). OneLine l r z) (take i rows) row (used, line)

    from : HasSomeLine (take i rows) l z ⊎ OneLine l row z → Contains zs z ⊎ HasLine row z
    from (inl old) = inl ((h z).1 old)
    from (inr one) = inr one.1

pub lines_skip : (rows : List TrackRow) (i : ℕ) (row : TrackRow) (l : Layer) (zs : List ℤ) → i < length rows → row ≡ get_or rows i row → is_used l row ≡ false → HasLines (take i rows) l zs → HasLines (take (i + 1) rows) l zs
lines_skip rows i row l zs within at unused h z =
    subst (λ (rs : List TrackRow). Contains zs z ↔ HasSomeLine rs l z) (sym (next rows i row within at)) (
      λ m. Any-push_left (λ (r : TrackRow). OneLine l r z) (take i rows) row ((h z).0 m),
      λ m. from (Any-push_cases (λ (r : TrackRow). OneLine l r z) (take i rows) row m),
    )
  where
    from : HasSomeLine (take i rows) l z ⊎ OneLine l row z → Contains zs z
    from (inl old) = (h z).1 old
    from (inr one) = absurd (let e : is_used l row ≡ true = one.0 in cc)

-- how many lines there are with one statement more
pub count_more : (rows : List TrackRow) (i : ℕ) (row : TrackRow) (l : Layer) → i < length rows → row ≡ get_or rows i row → line_count l (take (i + 1) rows) ≡ line_count l (take i rows) + times_used l row * row.count
count_more rows i row l within at = ap (line_count l) (next rows i row within at) ∙ sum_by_push (λ (r : TrackRow). times_used l r * r.count) (take i rows) row

pub used_count : (l : Layer) (row : TrackRow) → is_used l row ≡ true → row.count ≤ times_used l row * row.count
used_count l row used =
    let some : 1 ≤ times_used l row = ltb-true 0 (times_used l row) used in
    omega (arith, mul-le-mul_right row.count some)
