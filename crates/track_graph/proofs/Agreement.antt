-- What a search asks of a net and a reading is what was asked of a whole state before: the sentences of then, and that they agree with those of now.
use Rattle.std.proofs.Common.{◌≡◌, ◌↔◌, ◌⊎◌, ℕ, zero, suc, ◌+◌, ◌<◌, ◌≤◌, ◌==◌, ◌||◌, List, [], ◌∷◌, ◌++◌, Bool, true, false, not, if◌then◌else◌, sym, refl, ap, ◌∙◌, subst, length, get_or, slice_get, Some, Any, Contains, arith}
use Rattle.std.specs.List.{list_any}
use Rattle.std.proofs.lemmas.Bool.Decides.{nat_tests}
use Rattle.std.proofs.lemmas.Option.{unwrap_or-slice_get}
use Rattle.rt_base.specs.declared.tech.Shape.{Shape}
use Rattle.rt_base.specs.declared.walk.Entry.{Entry}
use Rattle.rt_base.specs.declared.walk.EntryKind.TheVariants.{Wire as OnWire}
use Rattle.rt_base.specs.declared.walk.Walk.{Walk}
use Rattle.track_graph.specs.declared.design.Design.{Design}
use Rattle.track_graph.specs.declared.history.NetState.{NetState}
use Rattle.track_graph.specs.declared.history.State.{State}
use Rattle.track_graph.specs.Entries.{entries_of}
use Rattle.track_graph.specs.Guide.{InGuide}
use Rattle.track_graph.specs.Levels.{track_system_of}
use Rattle.track_graph.specs.Readings.{hard_reading, reading_without}
use Rattle.track_graph.specs.Searches.{Reading, some_conflict, guide_of, IsLegal, IsLeast, NoneLegal, walk_cost}
use Rattle.track_graph.specs.States.{net_state, net_shapes, standing_from, every_net, standing, emptied}
use Rattle.track_graph.specs.Walks.{IsPath, end_of, vertices_of, PathInGuide, walk_shapes_of}
use Rattle.track_graph.proofs.StateLemmas.{blank, length-emptied, emptied-has_none, emptied-others}

-- ---- the sentences of before, over a whole state

abbrev pub StartedIn : Design → State → ℕ → Entry → Type 0
StartedIn d s n e =
    ((pin : ℕ) × (slice_get (net_state s n).joined pin ≡ Some true) × Contains (entries_of d n pin) e)
    ⊎ ((e.kind ≡ OnWire) × Any (λ (w : Walk). Contains (vertices_of w.start.vertex w.edges) e.vertex) (net_state s n).walks)

abbrev pub FinishedIn : Design → State → ℕ → Entry → Type 0
FinishedIn d s n e = (pin : ℕ) × (slice_get (net_state s n).joined pin ≡ Some false) × Contains (entries_of d n pin) e

pub record IsLegalIn (d : Design) (s : State) (reading : Reading) (n : ℕ) (w : Walk) : Type 0 where
  pub start : StartedIn d s n w.start
  pub path : IsPath (track_system_of d) w.start.vertex w.edges
  pub arrives : end_of w.start.vertex w.edges ≡ w.finish.vertex
  pub finish : FinishedIn d s n w.finish
  pub start_in : InGuide (guide_of d n) w.start.vertex.level w.start.vertex.point
  pub finish_in : InGuide (guide_of d n) w.finish.vertex.level w.finish.vertex.point
  pub path_in : PathInGuide (guide_of d n) w.start.vertex w.edges
  pub clear : some_conflict d.tech (walk_shapes_of d n w) reading.forbidding ≡ false

pub record IsLeastIn (d : Design) (s : State) (reading : Reading) (n : ℕ) (w : Walk) : Type 0 where
  pub legal : IsLegalIn d s reading n w
  pub least : (v : Walk) → IsLegalIn d s reading n v → walk_cost d n reading w ≤ walk_cost d n reading v

abbrev pub NoneLegalIn : Design → State → Reading → ℕ → Type 0
NoneLegalIn d s reading n = (v : Walk) → IsLegalIn d s reading n v → ⊥

-- ---- they agree

now : (d : Design) (s : State) (r : Reading) (n : ℕ) (w : Walk) → IsLegalIn d s r n w → IsLegal d n (net_state s n) r w
now d s r n w h = record {
  walk = record { start = h.start; path = h.path; arrives = h.arrives; finish = h.finish };
  inside = record { start = h.start_in; finish = h.finish_in; path = h.path_in };
  clear = h.clear;
}

before : (d : Design) (s : State) (r : Reading) (n : ℕ) (w : Walk) → IsLegal d n (net_state s n) r w → IsLegalIn d s r n w
before d s r n w h = record {
  start = h.walk.start;
  path = h.walk.path;
  arrives = h.walk.arrives;
  finish = h.walk.finish;
  start_in = h.inside.start;
  finish_in = h.inside.finish;
  path_in = h.inside.path;
  clear = h.clear;
}

-- a walk is least for a net and a reading exactly where it was least in the state
pub least-agrees : (d : Design) (s : State) (r : Reading) (n : ℕ) (w : Walk) → IsLeast d n (net_state s n) r w ↔ IsLeastIn d s r n w
least-agrees d s r n w = (
  λ h. record { legal = before d s r n w h.legal; least = λ v legal. h.least v (now d s r n v legal) },
  λ h. record { legal = now d s r n w h.legal; least = λ v legal. h.least v (before d s r n v legal) },
)

pub none-agrees : (d : Design) (s : State) (r : Reading) (n : ℕ) → NoneLegal d n (net_state s n) r ↔ NoneLegalIn d s r n
none-agrees d s r n = (λ h v legal. h v (now d s r n v legal), λ h v legal. h v (before d s r n v legal))

-- ---- nets that are absent from a reading, and a state in which they are emptied

abbrev part_of : Design → (ℕ → NetState → Bool) → ℕ → NetState → List Shape
part_of d test n net = if test n net then net_shapes d n net else []

standing-same : (d : Design) (t u : ℕ → NetState → Bool) (base : ℕ) (xs ys : List NetState) → length xs ≡ length ys
    → ((k : ℕ) → k < length xs → part_of d t (base + k) (get_or xs k blank) ≡ part_of d u (base + k) (get_or ys k blank)) → standing_from d t base xs ≡ standing_from d u base ys
standing-same d t u base [] [] l h = refl
standing-same d t u base [] (y ∷ ys) l h = absurd (omega (arith, l))
standing-same d t u base (x ∷ xs) [] l h = absurd (omega (arith, l))
standing-same d t u base (x ∷ xs) (y ∷ ys) l h =
    let at : base + 0 ≡ base = omega arith in
    let here : part_of d t base x ≡ part_of d u base y = subst (λ (k : ℕ). part_of d t k x ≡ part_of d u k y) at (h 0 (omega arith)) in
    let rest : standing_from d t (base + 1) xs ≡ standing_from d u (base + 1) ys =
    standing-same d t u (base + 1) xs ys (omega (arith, l))
    (λ k within. let next : base + suc k ≡ base + 1 + k = omega arith in
    subst (λ (m : ℕ). part_of d t m (get_or xs k blank) ≡ part_of d u m (get_or ys k blank)) next (h (suc k) (omega arith))) in
    ap (λ (ss : List Shape). ss ++ standing_from d t (base + 1) xs) here ∙ ap (λ (ss : List Shape). part_of d u base y ++ ss) rest

same_from : (a b : ℕ) → (a == b) ≡ true → a ≡ b
same_from a b e = grind (arith, nat_tests)

-- the test whether a number is among others
among : (ns : List ℕ) (m : ℕ) → list_any (λ k. k == m) ns ≡ true → Contains ns m
among [] m h = absurd cc
among (n ∷ ns) m h = by_test (n == m) refl h (among ns m)
  where
    by_test : (b : Bool) → (n == m) ≡ b → (b || list_any (λ k. k == m) ns) ≡ true → (list_any (λ k. k == m) ns ≡ true → Contains ns m) → Contains (n ∷ ns) m
    by_test true e t later = (0, omega arith, same_from n m e)
    by_test false e t later = let c : Contains ns m = later t in (suc c.0, omega (arith, c.1), c.2)

not_among : (ns : List ℕ) (m : ℕ) → list_any (λ k. k == m) ns ≡ false → Contains ns m → ⊥
not_among [] m h c = omega (arith, c.1)
not_among (n ∷ ns) m h c = by_place c (parts (n == m) h) (not_among ns m)
  where
    parts : (b : Bool) → (b || list_any (λ k. k == m) ns) ≡ false → (b ≡ false) × (list_any (λ k. k == m) ns ≡ false)
    parts true t = absurd cc
    parts false t = (refl, t)

    clash : (a b : ℕ) → a ≡ b → (a == b) ≡ false → ⊥
    clash a b e t = grind (arith, nat_tests)

    by_place : Contains (n ∷ ns) m → ((n == m) ≡ false) × (list_any (λ k. k == m) ns ≡ false) → (list_any (λ k. k == m) ns ≡ false → Contains ns m → ⊥) → ⊥
    by_place (zero, l, e) t later = clash n m e t.0
    by_place (suc k, l, e) t later = later t.1 (k, omega arith, e)

-- a state in which nets are emptied has the shapes of the reading in which they are absent
pub emptied-reading : (d : Design) (s : State) (ns : List ℕ) → hard_reading d (emptied s ns) ≡ reading_without d s ns
emptied-reading d s ns = ap (λ (ss : List Shape). record { forbidding = d.fixed ++ ss; dear = [] }) same
  where
    present : ℕ → NetState → Bool
    present m net = not (list_any (λ k. k == m) ns)

    at : (t : State) (k : ℕ) → get_or t.nets k blank ≡ net_state t k
    at t k = sym (unwrap_or-slice_get t.nets k blank)

    by_test : (k : ℕ) (b : Bool) → k < length s.nets → list_any (λ j. j == k) ns ≡ b → net_shapes d k (net_state (emptied s ns) k) ≡ (if not b then net_shapes d k (net_state s k) else [])
    by_test k true within e = ap (λ (ws : List Walk). net_shapes d k (record { walks = ws; joined = []; rips = 0; stuck = false })) (emptied-has_none s k ns within (among ns k e))
    by_test k false within e = ap (net_shapes d k) (emptied-others s ns k (not_among ns k e))

    each : (k : ℕ) → k < length (emptied s ns).nets → part_of d every_net (0 + k) (get_or (emptied s ns).nets k blank) ≡ part_of d present (0 + k) (get_or s.nets k blank)
    each k within =
        let same : 0 + k ≡ k = omega arith in
        let inside : k < length s.nets = subst (λ (l : ℕ). k < l) (length-emptied s ns) within in
        rw (same, at (emptied s ns) k, at s k) (by_test k (list_any (λ j. j == k) ns) inside refl)

    same : standing d (emptied s ns) ≡ standing_from d present 0 s.nets
    same = standing-same d every_net present 0 (emptied s ns).nets s.nets (length-emptied s ns) each

-- a walk for which nets are ripped is least with them absent exactly where it was least in the state in which they are emptied
pub rip-agrees : (d : Design) (s : State) (ns : List ℕ) (n : ℕ) (w : Walk) → (Contains ns n → ⊥) → IsLeast d n (net_state s n) (reading_without d s ns) w ↔ IsLeastIn d (emptied s ns) (hard_reading d (emptied s ns)) n w
rip-agrees d s ns n w other =
    let own : net_state (emptied s ns) n ≡ net_state s n = emptied-others s ns n other in
    let both : IsLeast d n (net_state (emptied s ns) n) (hard_reading d (emptied s ns)) w ↔ IsLeastIn d (emptied s ns) (hard_reading d (emptied s ns)) n w = least-agrees d (emptied s ns) (hard_reading d (emptied s ns)) n w in (
      λ h. both.0 (subst (λ (x : NetState). IsLeast d n x (hard_reading d (emptied s ns)) w) (sym own) (subst (λ (r : Reading). IsLeast d n (net_state s n) r w) (sym (emptied-reading d s ns)) h)),
      λ h. subst (λ (r : Reading). IsLeast d n (net_state s n) r w) (emptied-reading d s ns) (subst (λ (x : NetState). IsLeast d n x (hard_reading d (emptied s ns)) w) own (both.1 h)),
    )
