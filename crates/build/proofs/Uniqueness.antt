-- LEF, DEF and options give one design or one refusal, and not both.
use Rattle.std.proofs.Common.{◌≡◌, ◌≢◌, ◌⊎◌, ◌↔◌, zero, suc, ◌+◌, ◌<◌, ℤ, ◌<ℤ◌, List, [], ◌∷◌, Bool, true, false, Option, Some, None, length, All, AllPairs, Any, Contains, IsTrue, refl, sym, ap, subst, ◌∙◌, inl, inr, arith, ⊎_elim, ◌≤◌}
use Rattle.std.specs.List.{AllZip}
use Rattle.std.proofs.lemmas.Int.{ints}
use Rattle.std.proofs.lemmas.Option.{same_Some, none-some}
use Rattle.rt_base.specs.declared.tech.Layer.{Layer}
use Rattle.rt_base.specs.declared.tech.Tech.{Tech}
use Rattle.rt_base.specs.declared.tech.Via.{Via}
use Rattle.track_graph.specs.declared.design.Design.{Design}
use Rattle.track_graph.specs.declared.design.Options.{Options}
use Rattle.track_graph.specs.declared.design.Tracks.{Tracks}
use Rattle.track_graph.specs.Designs.{IsUsable}
use Rattle.track_graph.specs.Levels.{routing_from, layer_no}
use Rattle.track_graph.specs.Metal.{Metal}
use Rattle.pin_access.specs.EntryOrder.{system_of}
use Rattle.lef_text.specs.declared.lef.Lef.{Lef}
use Rattle.def_text.specs.declared.def.Def.{Def}
use Rattle.def_text.specs.declared.def.TrackRow.{TrackRow}
use Rattle.build.specs.Built.{IsViaSaid, IsTechOf, fixed_of, grid_of}
use Rattle.build.specs.Wires.{wiring_tech}
use Rattle.build.specs.TrackLines.{AreTracksOf, AreLinesOf, routing_layers}
use Rattle.build.specs.declared.error.BuildError.{BuildError}
use Rattle.build.specs.declared.error.BuildError.TheVariants.{Scale, NoMacro, NoComponent, NoPin, NoLayer, NoNet, Wiring, PinTwice, NoTracks, Limit, Memory}
use Rattle.build.specs.Faults.{entry_count, count_fault, size_by}
use Rattle.build.specs.Inputs.{Input}
use Rattle.build.specs.EntryCounts.{NetsHave}
use Rattle.build.proofs.EntryTotals.{nets_unique, nets_counted}
use Rattle.build.specs.Refusals.{Parts, Gives, Refuses}
use Rattle.build.specs.Refusals.Refuses.{by_name, by_count, by_size}

-- a member of a list is its first, or one of the others
member_cases : {X : Type 0} → (x : X) (xs : List X) (z : X) → Contains (x ∷ xs) z → (x ≡ z) ⊎ Contains xs z
member_cases x xs z (zero, lt, at) = inl at
member_cases x xs z (suc k, lt, at) = inr (k, omega arith, at)

member_here : {X : Type 0} → (x : X) (xs : List X) → Contains (x ∷ xs) x
member_here x xs = (zero, omega arith, refl)

member_there : {X : Type 0} → (x : X) (xs : List X) (z : X) → Contains xs z → Contains (x ∷ xs) z
member_there x xs z (k, lt, at) = (suc k, omega arith, at)

-- the first is before each other
first_before : {X : Type 0} → (R : X → X → Type 0) (x : X) (xs : List X) (z : X) → AllPairs R (x ∷ xs) → Contains xs z → R x z
first_before R x xs z up (k, lt, at) = subst (R x) at (up zero (suc k) z (omega arith) (omega arith))

others_ascend : {X : Type 0} → (R : X → X → Type 0) (x : X) (xs : List X) → AllPairs R (x ∷ xs) → AllPairs R xs
others_ascend R x xs up i j d lt within = up (suc i) (suc j) d (omega arith) (omega arith)

-- ascending lists with the same members are one list
pub ascending_unique : {X : Type 0} → (R : X → X → Type 0) → ((x y : X) → R x y → R y x → ⊥) → (xs ys : List X) → AllPairs R xs → AllPairs R ys → ((z : X) → Contains xs z → Contains ys z) → ((z : X) → Contains ys z → Contains xs z) → xs ≡ ys
ascending_unique R apart [] [] ux uy to from = refl
ascending_unique R apart [] (y ∷ ys) ux uy to from = absurd (omega (arith, (from y (member_here y ys)).1))
ascending_unique R apart (x ∷ xs) [] ux uy to from = absurd (omega (arith, (to x (member_here x xs)).1))
ascending_unique {X} R apart (x ∷ xs) (y ∷ ys) ux uy to from =
    let heads : x ≡ y = ⊎_elim
    (λ (e : y ≡ x). sym e)
    (λ (later : Contains ys x). ⊎_elim
    (λ (e : x ≡ y). e)
    (λ (behind : Contains xs y). absurd (apart x y (first_before R x xs y ux behind) (first_before R y ys x uy later)))
    (member_cases x xs y (from y (member_here y ys))))
    (member_cases y ys x (to x (member_here x xs))) in
    let tails : xs ≡ ys = ascending_unique R apart xs ys (others_ascend R x xs ux) (others_ascend R y ys uy)
    (λ z h. ⊎_elim
    (λ (e : y ≡ z). absurd (let r : R x z = first_before R x xs z ux h in let s : R z z = subst (λ (v : X). R v z) (heads ∙ e) r in apart z z s s))
    (λ (k : Contains ys z). k)
    (member_cases y ys z (to z (member_there x xs z h))))
    (λ z h. ⊎_elim
    (λ (e : x ≡ z). absurd (let r : R y z = first_before R y ys z uy h in let s : R z z = subst (λ (v : X). R v z) (sym heads ∙ e) r in apart z z s s))
    (λ (k : Contains xs z). k)
    (member_cases x xs z (from z (member_there y ys z h)))) in
    (λ i. heads i ∷ tails i)

below_apart : (a b : ℤ) → a <ℤ b → b <ℤ a → ⊥
below_apart a b h k = omega (arith, ints)

-- the technology of a LEF is one
bool_unique : {P : Type 0} → (a b : Bool) → IsTrue a ↔ P → IsTrue b ↔ P → a ≡ b
bool_unique true true h k = refl
bool_unique true false h k = sym (k.1 (h.0 refl))
bool_unique false true h k = h.1 (k.0 refl)
bool_unique false false h k = refl

via_same : (v w : Via) → v.name ≡ w.name → v.usable ≡ w.usable → v.rects ≡ w.rects → v ≡ w
via_same v w a b c = λ i. record { name = a i; usable = b i; rects = c i }

abbrev with_layers : List Layer → Tech
with_layers ls = record { layers = ls; vias = [] }

usable_same : (t u : Tech) (rects : List Metal) → t.layers ≡ u.layers → IsUsable t rects → IsUsable u rects
usable_same t u rects same (level, h) = (
  level,
  record {
    joins = record {
      upper_level = subst (λ (ls : List Layer). level + 1 < length (routing_from 0 ls)) same h.joins.upper_level;
      lower = subst (λ (ls : List Layer). Any (λ (r : Metal). r.0.0 ≡ layer_no (with_layers ls) level) rects) same h.joins.lower;
      upper = subst (λ (ls : List Layer). Any (λ (r : Metal). r.0.0 ≡ layer_no (with_layers ls) (level + 1)) rects) same h.joins.upper;
    };
    cut = subst (λ (ls : List Layer). Any (λ (r : Metal). (layer_no (with_layers ls) level < r.0.0) × (r.0.0 < layer_no (with_layers ls) (level + 1))) rects) same h.cut;
    only = subst (λ (ls : List Layer). All (λ (r : Metal). (layer_no (with_layers ls) level ≤ r.0.0) × (r.0.0 ≤ layer_no (with_layers ls) (level + 1))) rects) same h.only;
  },
)

vias_unique : (t u : Tech) → t.layers ≡ u.layers → (said vs ws : List Via) → AllZip (IsViaSaid t) said vs → AllZip (IsViaSaid u) said ws → vs ≡ ws
vias_unique t u same [] [] [] h k = refl
vias_unique t u same [] [] (w ∷ ws) h k = absurd k
vias_unique t u same [] (v ∷ vs) ws h k = absurd h
vias_unique t u same (s ∷ ss) [] ws h k = absurd h
vias_unique t u same (s ∷ ss) (v ∷ vs) [] h k = absurd k
vias_unique t u same (s ∷ ss) (v ∷ vs) (w ∷ ws) h k =
    let usable = bool_unique v.usable w.usable h.0.usable (
      λ x. let p = k.0.usable.0 x in (p.0, usable_same u t s.rects (sym same) p.1),
      λ p. k.0.usable.1 (p.0, usable_same t u s.rects same p.1),
    ) in
    let one : v ≡ w = via_same v w (h.0.name ∙ sym k.0.name) usable (h.0.rects ∙ sym k.0.rects) in
    let more : vs ≡ ws = vias_unique t u same ss vs ws h.1 k.1 in
    (λ i. one i ∷ more i)

pub tech_unique : (i : Input) (t u : Tech) → IsTechOf i t → IsTechOf i u → t ≡ u
tech_unique said t u h k =
    let layers : t.layers ≡ u.layers = h.layers ∙ sym k.layers in
    let vias : t.vias ≡ u.vias = vias_unique t u layers (wiring_tech said).vias t.vias u.vias h.vias k.vias in
    (λ i. record { layers = layers i; vias = vias i })

-- the tracks of LEF and DEF are one
lines_unique : (rows : List TrackRow) (ls : List Layer) (a b : List (List ℤ)) → AllZip (AreLinesOf rows) ls a → AllZip (AreLinesOf rows) ls b → a ≡ b
lines_unique rows [] [] [] h k = refl
lines_unique rows [] [] (y ∷ ys) h k = absurd k
lines_unique rows [] (x ∷ xs) ys h k = absurd h
lines_unique rows (l ∷ ls) [] ys h k = absurd h
lines_unique rows (l ∷ ls) (x ∷ xs) [] h k = absurd k
lines_unique rows (l ∷ ls) (x ∷ xs) (y ∷ ys) h k =
    let one : x ≡ y = ascending_unique (λ a b. a <ℤ b) below_apart x y h.0.ascending k.0.ascending (λ z m. (k.0.lines z).1 ((h.0.lines z).0 m)) (λ z m. (h.0.lines z).1 ((k.0.lines z).0 m)) in
    let more : xs ≡ ys = lines_unique rows ls xs ys h.1 k.1 in
    (λ i. one i ∷ more i)

pub tracks_unique : (lef : Lef) (def : Def) (a b : Tracks) → AreTracksOf lef def a → AreTracksOf lef def b → a ≡ b
tracks_unique lef def a b h k =
    let lines : a.lines ≡ b.lines = lines_unique def.tracks (routing_layers lef.layers) a.lines b.lines h.lines k.lines in
    let steps : a.largest_step ≡ b.largest_step = h.steps ∙ sym k.steps in
    (λ i. record { lines = lines i; largest_step = steps i })

-- the sizes of the design don't depend on how it is built
sizes_same : (i : Input) (options : Options) (p q : Parts i) → size_by (grid_of i.def options) (fixed_of i) p.entries ≡ size_by (grid_of i.def options) (fixed_of i) q.entries
sizes_same i options p q =
    let te : q.tech ≡ p.tech = tech_unique i q.tech p.tech q.tech_of p.tech_of in
    let tr : q.tracks ≡ p.tracks = tracks_unique i.lef i.def q.tracks p.tracks q.tracks_of p.tracks_of in
    let by_tech : NetsHave i (system_of p.tech q.tracks i.def.die) i.def.nets q.entries =
    subst (λ (t : Tech). NetsHave i (system_of t q.tracks i.def.die) i.def.nets q.entries) te q.entries_of in
    let by_tracks : NetsHave i (system_of p.tech p.tracks i.def.die) i.def.nets q.entries =
    subst (λ (t : Tracks). NetsHave i (system_of p.tech t i.def.die) i.def.nets q.entries) tr by_tech in
    ap (size_by (grid_of i.def options) (fixed_of i)) (nets_unique i (system_of p.tech p.tracks i.def.die) i.def.nets p.entries q.entries p.entries_of by_tracks)

counts_same : (i : Input) (t u : Tech) → IsTechOf i t → IsTechOf i u → count_fault i t ≡ count_fault i u
counts_same i t u h k = ap (count_fault i) (tech_unique i t u h k)

clash : {X : Type 0} → (o : Option X) (x : X) → o ≡ Some x → o ≡ None → ⊥
clash o x h k = none-some x (sym k ∙ h)

-- one refusal at most
pub one_refusal : (i : Input) (options : Options) (e f : BuildError) → Refuses i options e → Refuses i options f → e ≡ f
one_refusal i options e f (by_name h) (by_name k) = same_Some e f (sym h ∙ k)
one_refusal i options e f (by_name h) (by_count k t u c) = absurd (clash _ e h k)
one_refusal i options e f (by_name h) (by_size k p c s) = absurd (clash _ e h k)
one_refusal i options e f (by_count h t u c) (by_name k) = absurd (clash _ f k h)
one_refusal i options e f (by_count h t u c) (by_count k t' u' c') = same_Some e f (sym c ∙ counts_same i t t' u u' ∙ c')
one_refusal i options e f (by_count h t u c) (by_size k p c' s) = absurd (clash _ e c (counts_same i t p.tech u p.tech_of ∙ c'))
one_refusal i options e f (by_size h p c s) (by_name k) = absurd (clash _ f k h)
one_refusal i options e f (by_size h p c s) (by_count k t u c') = absurd (clash _ f c' (counts_same i t p.tech u p.tech_of ∙ c))
one_refusal i options e f (by_size h p c s) (by_size k q c' s') = same_Some e f (sym s ∙ sizes_same i options p q ∙ s')

-- no refusal where there is a design
pub no_refusal : (i : Input) (options : Options) (d : Design) (e : BuildError) → Gives i options d → Refuses i options e → ⊥
no_refusal i options d e g (by_name h) = clash _ e h g.passes.names
no_refusal i options d e g (by_count h t u c) = clash _ e c (counts_same i t d.tech u g.design.tech ∙ g.passes.counts)
no_refusal i options d e g (by_size h p c s) =
    let mine : Parts i = record { tech = d.tech; tech_of = g.design.tech; tracks = d.tracks; tracks_of = g.design.tracks; entries = entry_count d.nets; entries_of = nets_counted i (system_of d.tech d.tracks i.def.die) i.def.nets d.nets g.design.nets } in
    clash _ e s (sizes_same i options p mine ∙ g.passes.sizes)

-- what isn't another fault is want of memory
pub is_memory : (e : BuildError) → (e ≢ Memory → ⊥) → e ≡ Memory
is_memory (Scale a b) h = absurd (h (λ same. cc))
is_memory (NoMacro n) h = absurd (h (λ same. cc))
is_memory (NoComponent n) h = absurd (h (λ same. cc))
is_memory (NoPin n) h = absurd (h (λ same. cc))
is_memory (NoLayer n) h = absurd (h (λ same. cc))
is_memory (NoNet n) h = absurd (h (λ same. cc))
is_memory (Wiring w) h = absurd (h (λ same. cc))
is_memory (PinTwice n) h = absurd (h (λ same. cc))
is_memory (NoTracks n) h = absurd (h (λ same. cc))
is_memory (Limit w c m) h = absurd (h (λ same. cc))
is_memory Memory h = refl
