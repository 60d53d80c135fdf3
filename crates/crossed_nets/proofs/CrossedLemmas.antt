-- What holds of the nets that a walk crosses.
use Rattle.std.proofs.Common.{◌≡◌, ◌≢◌, ◌∙◌, ⊎_elim, ◌⊎◌, inl, inr, ℕ, zero, suc, ◌+◌, ◌<◌, List, [], ◌∷◌, ◌++◌, Bool, true, false, cond, not, ◌&&◌, ◌||◌, ◌==◌, Some, slice_get, length, AllPairs, Contains, refl, sym, ap, subst, arith, eq-eqb}
use Rattle.std.specs.List.{list_any}
use Rattle.std.proofs.lemmas.Bool.{cases_Bool}
use Rattle.std.proofs.lemmas.List.Elements.{Contains-append_cases}
use Rattle.std.proofs.lemmas.List.Folds.{list_any-append}
use Rattle.std.proofs.lemmas.Option.{same_Some, slice_get_within}
use Rattle.rt_base.proofs.Lists.{in_cons, none_in}
use Rattle.rt_base.specs.declared.tech.Shape.{Shape}
use Rattle.rt_base.specs.declared.walk.Walk.{Walk}
use Rattle.track_graph.specs.declared.design.Design.{Design}
use Rattle.track_graph.specs.declared.history.NetState.{NetState}
use Rattle.track_graph.specs.declared.history.State.{State}
use Rattle.track_graph.specs.Histories.{crossed_from}
use Rattle.track_graph.specs.Readings.{hard_reading, may_rip, reading_without, soft_reading}
use Rattle.track_graph.specs.Searches.{IsLegal, NoneLegal, some_conflict}
use Rattle.track_graph.specs.States.{net_shapes, standing_from}
use Rattle.track_graph.specs.Walks.{walk_shapes_of}
use Rattle.crossed_nets.specs.Ascents.{Ascend}
use Rattle.crossed_nets.specs.Hits.{has}
use Rattle.crossed_nets.specs.Ripped.{IsRippable}
use Rattle.crossed_nets.proofs.Conflicts.{some-append, some-none}
use Rattle.crossed_nets.proofs.Numbers.{ascend-down, ascend-pairs}
use Rattle.plain_route.proofs.CountLemmas.{state_at}

-- the number alone, or nothing, comes in order before greater ones
if_ascends : (k : ℕ) (t : Bool) (rest : List ℕ) → Ascend (k + 1) rest → Ascend k (cond t (k ∷ []) [] ++ rest)
if_ascends k true rest a = (omega arith, a)
if_ascends k false rest a = ascend-down k rest a

pub crossed-ascend_from : (d : Design) (n : ℕ) (w : Walk) (k : ℕ) (nets : List NetState) → Ascend k (crossed_from d n w k nets)
crossed-ascend_from d n w k [] = tt
crossed-ascend_from d n w k (net ∷ nets) = if_ascends k (may_rip d n k net && some_conflict d.tech (walk_shapes_of d n w) (net_shapes d k net)) (crossed_from d n w (k + 1) nets) (crossed-ascend_from d n w (k + 1) nets)

-- the nets that are crossed ascend, so none comes twice
pub crossed-ascending : (d : Design) (n : ℕ) (w : Walk) (k : ℕ) (nets : List NetState) → AllPairs (λ a b. a < b) (crossed_from d n w k nets)
crossed-ascending d n w k nets = ascend-pairs k (crossed_from d n w k nets) (crossed-ascend_from d n w k nets)

-- net m stands in the list, of which the first has number k, and may be ripped for net n
record IsListed (d : Design) (n m k : ℕ) (nets : List NetState) : Type 0 where
  pub place : ℕ
  pub net : NetState
  pub number : m ≡ k + place
  pub at : slice_get nets place ≡ Some net
  pub may : may_rip d n m net ≡ true

and_first : (a b : Bool) → (a && b) ≡ true → a ≡ true
and_first true b h = refl
and_first false b h = absurd cc

in_if : (k m : ℕ) (t : Bool) → Contains (cond t (k ∷ []) []) m → (m ≡ k) × (t ≡ true)
in_if k m true c = ⊎_elim (λ (e : m ≡ k). (e, refl)) (λ (none : Contains [] m). absurd (none_in m none)) (in_cons k [] m c)
in_if k m false c = absurd (none_in m c)

crossed_listed : (d : Design) (n : ℕ) (w : Walk) (m k : ℕ) (nets : List NetState) → Contains (crossed_from d n w k nets) m → IsListed d n m k nets
crossed_listed d n w m k [] c = absurd (none_in m c)
crossed_listed d n w m k (net ∷ nets) c =
    let meets : Bool = some_conflict d.tech (walk_shapes_of d n w) (net_shapes d k net) in
    ⊎_elim
    (λ (here : Contains (cond (may_rip d n k net && meets) (k ∷ []) []) m).
    let is : (m ≡ k) × ((may_rip d n k net && meets) ≡ true) = in_if k m (may_rip d n k net && meets) here in
    let may : may_rip d n m net ≡ true = subst (λ (j : ℕ). may_rip d n j net ≡ true) (sym is.0) (and_first (may_rip d n k net) meets is.1) in
    let r : IsListed d n m k (net ∷ nets) = record { place = 0; net = net; number = omega (arith, is.0); at = refl; may = may } in
    r)
    (λ (later : Contains (crossed_from d n w (k + 1) nets) m).
    let rest : IsListed d n m (k + 1) nets = crossed_listed d n w m (k + 1) nets later in
    let r : IsListed d n m k (net ∷ nets) = record { place = suc rest.place; net = rest.net; number = omega (arith, rest.number); at = rest.at; may = rest.may } in
    r)
    (Contains-append_cases (cond (may_rip d n k net && meets) (k ∷ []) []) (crossed_from d n w (k + 1) nets) m c)

not_true : (a b : Bool) → (not a && b) ≡ true → a ≡ false
not_true true b h = absurd cc
not_true false b h = refl

-- each net that is crossed may be ripped
pub crossed-rippable : (d : Design) (s : State) (n : ℕ) (w : Walk) (m : ℕ) → Contains (crossed_from d n w 0 s.nets) m → IsRippable d s n m
crossed-rippable d s n w m c =
    let h : IsListed d n m 0 s.nets = crossed_listed d n w m 0 s.nets c in
    record {
      within = let l : h.place < length s.nets = slice_get_within s.nets h.place h.net h.at in omega (arith, l, h.number);
      other = λ e. let miss : (m == n) ≡ false = not_true (m == n) _ h.may in let hit : (m == n) ≡ true = eq-eqb m n e in cc;
      may = ap (may_rip d n m) (state_at s m h.place h.net h.number h.at) ∙ h.may;
    }

-- a net that stands in the list and may be ripped is crossed where its shapes conflict with the walk
crossed_at : (d : Design) (n : ℕ) (w : Walk) (m k i : ℕ) (nets : List NetState) (net : NetState) → m ≡ k + i → slice_get nets i ≡ Some net → may_rip d n m net ≡ true → some_conflict d.tech (walk_shapes_of d n w) (net_shapes d m net) ≡ true → has (crossed_from d n w k nets) m ≡ true
crossed_at d n w m k i [] net e at may meets = absurd cc
crossed_at d n w m k zero (x ∷ nets) net e at may meets =
    let here : m ≡ k = omega (arith, e) in
    let same : x ≡ net = same_Some x net at in
    let both : (may_rip d n k x && some_conflict d.tech (walk_shapes_of d n w) (net_shapes d k x)) ≡ true =
    subst (λ (y : NetState). (may_rip d n k y && some_conflict d.tech (walk_shapes_of d n w) (net_shapes d k y)) ≡ true) (sym same)
    (subst (λ (j : ℕ). (may_rip d n j net && some_conflict d.tech (walk_shapes_of d n w) (net_shapes d j net)) ≡ true) here (both_true _ _ may meets)) in
    ap (λ (t : Bool). has (cond t (k ∷ []) [] ++ crossed_from d n w (k + 1) nets) m) both
    ∙ ap (λ (t : Bool). t || has (crossed_from d n w (k + 1) nets) m) (eq-eqb k m (sym here))
  where
    both_true : (a b : Bool) → a ≡ true → b ≡ true → (a && b) ≡ true
    both_true a b p q = rw (p, q) refl
crossed_at d n w m k (suc i) (x ∷ nets) net e at may meets =
    let first : List ℕ = cond (may_rip d n k x && some_conflict d.tech (walk_shapes_of d n w) (net_shapes d k x)) (k ∷ []) [] in
    list_any-append (λ j. j == m) first (crossed_from d n w (k + 1) nets)
    ∙ ap (λ (t : Bool). has first m || t) (crossed_at d n w m (k + 1) i nets net (omega (arith, e)) at may meets)
    ∙ or_true (has first m)
  where
    or_true : (b : Bool) → (b || true) ≡ true
    or_true true = refl
    or_true false = refl

either_false : (a b : Bool) → (a || b) ≡ false → (a ≡ false) × (b ≡ false)
either_false true b h = absurd cc
either_false false b h = (refl, h)

-- the shapes of the nets of one test don't conflict where those of another don't
clear_along : (d : Design) (mine : List Shape) (t u : ℕ → NetState → Bool) (k : ℕ) (nets : List NetState)
    → ((m i : ℕ) (net : NetState) → m ≡ k + i → slice_get nets i ≡ Some net → t m net ≡ true → (u m net ≡ true) ⊎ (some_conflict d.tech mine (net_shapes d m net) ≡ false))
    → some_conflict d.tech mine (standing_from d u k nets) ≡ false → some_conflict d.tech mine (standing_from d t k nets) ≡ false
clear_along d mine t u k [] each h = h
clear_along d mine t u k (net ∷ nets) each h =
    let parts : (some_conflict d.tech mine (cond (u k net) (net_shapes d k net) []) ≡ false) × (some_conflict d.tech mine (standing_from d u (k + 1) nets) ≡ false) =
    either_false _ _ (sym (some-append d.tech mine (cond (u k net) (net_shapes d k net) []) (standing_from d u (k + 1) nets)) ∙ h) in
    let rest : some_conflict d.tech mine (standing_from d t (k + 1) nets) ≡ false = clear_along d mine t u (k + 1) nets (λ m i x e at yes. each m (suc i) x (omega (arith, e)) at yes) parts.1 in
    let first : some_conflict d.tech mine (cond (t k net) (net_shapes d k net) []) ≡ false = ⊎_elim
    (λ (yes : t k net ≡ true). ap (λ (b : Bool). some_conflict d.tech mine (cond b (net_shapes d k net) [])) yes
    ∙ ⊎_elim
    (λ (also : u k net ≡ true). subst (λ (b : Bool). some_conflict d.tech mine (cond b (net_shapes d k net) []) ≡ false) also parts.0)
    (λ (none : some_conflict d.tech mine (net_shapes d k net) ≡ false). none)
    (each k 0 net (omega arith) refl yes))
    (λ (no : t k net ≡ false). ap (λ (b : Bool). some_conflict d.tech mine (cond b (net_shapes d k net) [])) no ∙ some-none d.tech mine)
    (cases_Bool (t k net)) in
    some-append d.tech mine (cond (t k net) (net_shapes d k net) []) (standing_from d t (k + 1) nets)
    ∙ ap (λ (b : Bool). b || some_conflict d.tech mine (standing_from d t (k + 1) nets)) first
    ∙ rest

not_false : (b : Bool) → not b ≡ true → b ≡ false
not_false true h = absurd cc
not_false false h = refl

-- a soft walk is legal without the nets that it crosses
pub legal-without : (d : Design) (s : State) (n : ℕ) (own : NetState) (w : Walk) → IsLegal d n own (soft_reading d s n) w → IsLegal d n own (reading_without d s (crossed_from d n w 0 s.nets)) w
legal-without d s n own w h =
    let mine : List Shape = walk_shapes_of d n w in
    let absent : List ℕ = crossed_from d n w 0 s.nets in
    let t : ℕ → NetState → Bool = λ m net. not (list_any (λ k. k == m) absent) in
    let u : ℕ → NetState → Bool = λ m net. not (may_rip d n m net) in
    let parts : (some_conflict d.tech mine d.fixed ≡ false) × (some_conflict d.tech mine (standing_from d u 0 s.nets) ≡ false) =
    either_false _ _ (sym (some-append d.tech mine d.fixed (standing_from d u 0 s.nets)) ∙ h.clear) in
    let each : (m i : ℕ) (net : NetState) → m ≡ 0 + i → slice_get s.nets i ≡ Some net → t m net ≡ true → (u m net ≡ true) ⊎ (some_conflict d.tech mine (net_shapes d m net) ≡ false) =
    λ m i net e at yes. ⊎_elim
    (λ (may : may_rip d n m net ≡ true). ⊎_elim
    (λ (meets : some_conflict d.tech mine (net_shapes d m net) ≡ true).
    absurd (let one : has absent m ≡ true = crossed_at d n w m 0 i s.nets net e at may meets in let none : has absent m ≡ false = not_false (has absent m) yes in cc))
    (λ (clear : some_conflict d.tech mine (net_shapes d m net) ≡ false). inr clear)
    (cases_Bool (some_conflict d.tech mine (net_shapes d m net))))
    (λ (may : may_rip d n m net ≡ false). inl (ap not may))
    (cases_Bool (may_rip d n m net)) in
    record {
      walk = h.walk;
      inside = h.inside;
      clear = some-append d.tech mine d.fixed (standing_from d t 0 s.nets)
          ∙ ap (λ (b : Bool). b || some_conflict d.tech mine (standing_from d t 0 s.nets)) parts.0
          ∙ clear_along d mine t u 0 s.nets each parts.1;
    }

-- where no walk is legal a soft one crosses some net
pub crossed-some : (d : Design) (s : State) (n : ℕ) (own : NetState) (w : Walk) → NoneLegal d n own (hard_reading d s) → IsLegal d n own (soft_reading d s n) w → crossed_from d n w 0 s.nets ≢ []
crossed-some d s n own w none soft e = none w (subst (λ (absent : List ℕ). IsLegal d n own (reading_without d s absent) w) e (legal-without d s n own w soft))
