-- A legal walk breaks no rule: what stands after it is added stood before, or is of the walk.
use Rattle.std.proofs.Common.{◌≡◌, ◌⊎◌, inl, inr, ⊎_elim, ℕ, zero, suc, ◌+◌, List, [], ◌∷◌, ◌++◌, Bool, true, false, ◌&&◌, ◌||◌, ◌==◌, not, max, sym, refl, ap, ◌∙◌, subst, Some, None, Option, Contains, map, slice_get, slice_set, option_map, unwrap_or, fold, length, ◌<◌, ◌≤◌, arith, eq-eqb, zero-add}
use Rattle.std.specs.List.{list_any, flat_map}
use Rattle.std.proofs.lemmas.Grind.{flat_map-append}
use Rattle.std.proofs.lemmas.Option.{same_Some, slice_get-get_or, slice_get_past, unwrap_or-slice_get}
use Rattle.std.proofs.lemmas.Bool.Decides.{nat_tests}
use Rattle.std.proofs.lemmas.Bool.{cases_lt}
use Rattle.std.proofs.lemmas.List.{length-map, length-set}
use Rattle.std.proofs.lemmas.List.Elements.{Contains-append_left, Contains-append_right, Contains-append_cases}
use Rattle.rt_base.specs.Conflict.{conflict_of, same_owner, spacing_of, is_near_of}
use Rattle.rt_base.specs.Geometry.{gap_x, gap_y}
use Rattle.rt_base.specs.declared.tech.Owner.{Owner}
use Rattle.rt_base.specs.declared.tech.Owner.TheVariants.{Net as OfNet, Nobody}
use Rattle.rt_base.specs.declared.tech.Shape.{Shape}
use Rattle.rt_base.specs.declared.tech.Tech.{Tech}
use Rattle.rt_base.specs.declared.walk.Walk.{Walk}
use Rattle.track_graph.specs.Readings.{hard_reading}
use Rattle.track_graph.specs.declared.design.Design.{Design}
use Rattle.track_graph.specs.declared.design.Net.{Net}
use Rattle.track_graph.specs.declared.design.NetKind.{NetKind}
use Rattle.track_graph.specs.declared.design.NetKind.TheVariants.{Routable}
use Rattle.track_graph.specs.declared.history.Block.{Block}
use Rattle.track_graph.specs.declared.history.Block.TheVariants.{Wire, Stuck, RipFor}
use Rattle.track_graph.specs.declared.history.NetState.{NetState}
use Rattle.track_graph.specs.declared.history.State.{State}
use Rattle.track_graph.specs.Metal.{Metal, shapes_of}
use Rattle.track_graph.specs.Walks.{walk_shapes_of, walk_parts, parts_shapes}
use Rattle.track_graph.specs.Rules.{BreaksNoRule}
use Rattle.track_graph.specs.States.{net_state, net_shapes, standing_from, with_mark, with_net, with_walk, join_pin, after, emptied, emptied_net, first_state, fresh, state_of, every_net, standing}
use Rattle.track_graph.specs.Searches.{Reading, IsLegal}
use Rattle.track_graph.specs.Histories.{IsRoutable, IsRight, IsHistory, IsHistoryFrom}
use Rattle.rt_base.proofs.Lists.{in_cons, none_in}
use Rattle.track_graph.proofs.Agreement.{emptied-reading}
use Rattle.track_graph.proofs.StateLemmas.{blank, length-emptied}

either_false : (a b : Bool) → (a || b) ≡ false → (a ≡ false) × (b ≡ false)
either_false true b h = cc
either_false false b h = (refl, h)

any_false : {X : Type 0} (p : X → Bool) (xs : List X) (a : X) → list_any p xs ≡ false → Contains xs a → p a ≡ false
any_false p [] a h c = absurd (none_in a c)
any_false p (x ∷ xs) a h c = ⊎_elim
    (λ (e : a ≡ x). ap p e ∙ (either_false (p x) (list_any p xs) h).0)
    (λ (c : Contains xs a). any_false p xs a (either_false (p x) (list_any p xs) h).1 c)
    (in_cons x xs a c)

-- each shape of a net's walk is the net's
metal_owner : (n : ℕ) (ms : List Metal) (a : Shape) → Contains (shapes_of n ms) a → a.owner ≡ OfNet n
metal_owner n [] a c = absurd (none_in a c)
metal_owner n (m ∷ ms) a c = ⊎_elim
    (λ (e : a ≡ record { layer = m.0; rect = m.1; owner = OfNet n; fixed = false }). ap (λ (x : Shape). x.owner) e)
    (λ (c : Contains (shapes_of n ms) a). metal_owner n ms a c)
    (in_cons _ (shapes_of n ms) a c)

parts_owner : (n : ℕ) (ps : List (ℕ × List Metal)) (a : Shape) → Contains (parts_shapes n ps) a → a.owner ≡ OfNet n
parts_owner n [] a c = absurd (none_in a c)
parts_owner n (p ∷ ps) a c = ⊎_elim (metal_owner n p.1 a) (parts_owner n ps a) (Contains-append_cases (shapes_of n p.1) (parts_shapes n ps) a c)

and_false : (x y : Bool) → (x && false && y) ≡ false
and_false true y = refl
and_false false y = refl

own_fine : (tech : Tech) (n : ℕ) (a b : Shape) → a.owner ≡ OfNet n → b.owner ≡ OfNet n → conflict_of tech a b ≡ false
own_fine tech n a b p q =
    let e : same_owner a.owner b.owner ≡ true = ap (λ (x : Owner). same_owner x b.owner) p ∙ ap (same_owner (OfNet n)) q ∙ eq-eqb n n refl in
    ap (λ (x : Bool). (a.layer.0 == b.layer.0) && not x && is_near_of (gap_x a.rect b.rect) (gap_y a.rect b.rect) (spacing_of tech a.layer)) e ∙ and_false _ _

-- what stands of the nets once net k stands otherwise
standing_set : (d : Design) (nets : List NetState) (k base : ℕ) (new : NetState) (a : Shape) → Contains (standing_from d every_net base (slice_set nets k new)) a → Contains (standing_from d every_net base nets) a ⊎ Contains (net_shapes d (base + k) new) a
standing_set d [] k base new a c = absurd (none_in a c)
standing_set d (x ∷ xs) zero base new a c = ⊎_elim
    (λ (l : Contains (net_shapes d base new) a). inr (subst (λ (n : ℕ). Contains (net_shapes d n new) a) (omega arith) l))
    (λ (r : Contains (standing_from d every_net (base + 1) xs) a). inl (Contains-append_right (net_shapes d base x) _ a r))
    (Contains-append_cases (net_shapes d base new) (standing_from d every_net (base + 1) xs) a c)
standing_set d (x ∷ xs) (suc k) base new a c = ⊎_elim
    (λ (l : Contains (net_shapes d base x) a). inl (Contains-append_left (net_shapes d base x) _ a l))
    (λ (r : Contains (standing_from d every_net (base + 1) (slice_set xs k new)) a). ⊎_elim
    (λ (o : Contains (standing_from d every_net (base + 1) xs) a). inl (Contains-append_right (net_shapes d base x) _ a o))
    (λ (m : Contains (net_shapes d (base + 1 + k) new) a). inr (subst (λ (n : ℕ). Contains (net_shapes d n new) a) (omega arith) m))
    (standing_set d xs k (base + 1) new a r))
    (Contains-append_cases (net_shapes d base x) (standing_from d every_net (base + 1) (slice_set xs k new)) a c)

standing_has : (d : Design) (nets : List NetState) (k base : ℕ) (old : NetState) (a : Shape) → slice_get nets k ≡ Some old → Contains (net_shapes d (base + k) old) a → Contains (standing_from d every_net base nets) a
standing_has d [] k base old a at c = cc
standing_has d (x ∷ xs) zero base old a at c =
    Contains-append_left (net_shapes d base x) _ a (subst (λ (m : NetState). Contains (net_shapes d base m) a) (sym (same_Some x old at)) (subst (λ (n : ℕ). Contains (net_shapes d n old) a) (omega arith) c))
standing_has d (x ∷ xs) (suc k) base old a at c =
    Contains-append_right (net_shapes d base x) _ a (standing_has d xs k (base + 1) old a at (subst (λ (n : ℕ). Contains (net_shapes d n old) a) (omega arith) c))

-- the net with the walk
abbrev pub longer_net : State → ℕ → Walk → NetState
longer_net s n w = record { walks = (net_state s n).walks ++ w ∷ []; joined = join_pin w.finish.kind (net_state s n).joined; rips = (net_state s n).rips; stuck = (net_state s n).stuck }

-- what stands after a walk is added stood before, or is of the walk
standing_cases : (d : Design) (s : State) (n : ℕ) (w : Walk) (old : NetState) (a : Shape) → slice_get s.nets n ≡ Some old → Contains (standing d (with_walk s n w)) a → Contains (standing d s) a ⊎ Contains (walk_shapes_of d n w) a
standing_cases d s n w old a at c =
    let same : net_state s n ≡ old = ap (λ (o : Option NetState). unwrap_or o (record { walks = []; joined = []; rips = 0; stuck = false })) at in
    ⊎_elim (λ (o : Contains (standing d s) a). inl o)
    (λ (m : Contains (net_shapes d (0 + n) (longer_net s n w)) a).
    let here : Contains (flat_map (walk_shapes_of d n) ((net_state s n).walks ++ w ∷ [])) a = subst (λ (k : ℕ). Contains (net_shapes d k (longer_net s n w)) a) (zero-add n) m in
    let parts : Contains (flat_map (walk_shapes_of d n) (net_state s n).walks ++ flat_map (walk_shapes_of d n) (w ∷ [])) a =
    subst (λ (ss : List Shape). Contains ss a) (flat_map-append (walk_shapes_of d n) (net_state s n).walks (w ∷ [])) here in
    ⊎_elim
    (λ (l : Contains (net_shapes d n (net_state s n)) a).
    let at_old : Contains (net_shapes d n old) a = subst (λ (x : NetState). Contains (net_shapes d n x) a) same l in
    inl (standing_has d s.nets n 0 old a at (subst (λ (k : ℕ). Contains (net_shapes d k old) a) (sym (zero-add n)) at_old)))
    (λ (r : Contains (walk_shapes_of d n w ++ []) a). ⊎_elim (λ (x : Contains (walk_shapes_of d n w) a). inr x) (λ (x : Contains [] a). absurd (none_in a x)) (Contains-append_cases (walk_shapes_of d n w) [] a r))
    (Contains-append_cases (flat_map (walk_shapes_of d n) (net_state s n).walks) (flat_map (walk_shapes_of d n) (w ∷ [])) a parts))
    (standing_set d s.nets n 0 (longer_net s n w) a c)

-- the test is the same either way round
eq_flip : (m n : ℕ) → (m == n) ≡ (n == m)
eq_flip m n = grind (arith, nat_tests)

owner_flip : (o p : Owner) → same_owner o p ≡ same_owner p o
owner_flip (OfNet m) (OfNet n) = eq_flip m n
owner_flip (OfNet m) Nobody = refl
owner_flip Nobody (OfNet n) = refl
owner_flip Nobody Nobody = refl

max_flip : (m n : ℕ) → max m n ≡ max n m
max_flip m n = omega arith

same_from_test : (m n : ℕ) → (m == n) ≡ true → m ≡ n
same_from_test m n h = grind (arith, nat_tests)

and_same : (p q n m : Bool) → (p ≡ true → n ≡ m) → (p && q && n) ≡ (p && q && m)
and_same true q n m h = ap (λ (z : Bool). q && z) (h refl)
and_same false q n m h = refl

pub conflict_flip : (tech : Tech) (a b : Shape) → conflict_of tech a b ≡ conflict_of tech b a
conflict_flip tech a b =
    let gx : gap_x a.rect b.rect ≡ gap_x b.rect a.rect = max_flip _ _ in
    let gy : gap_y a.rect b.rect ≡ gap_y b.rect a.rect = max_flip _ _ in
    let l : (a.layer.0 == b.layer.0) ≡ (b.layer.0 == a.layer.0) = eq_flip _ _ in
    let o : same_owner a.owner b.owner ≡ same_owner b.owner a.owner = owner_flip a.owner b.owner in
    and_same (a.layer.0 == b.layer.0) (not (same_owner a.owner b.owner)) _ (is_near_of (gap_x b.rect a.rect) (gap_y b.rect a.rect) (spacing_of tech b.layer))
    (λ h. let e : a.layer.0 ≡ b.layer.0 = same_from_test a.layer.0 b.layer.0 h in
    let s : spacing_of tech a.layer ≡ spacing_of tech b.layer = ap (λ (k : ℕ). spacing_of tech (record { 0 = k })) e in
    rw (gx, gy, s) refl)
    ∙ ap (λ (z : Bool). z && not (same_owner a.owner b.owner) && is_near_of (gap_x b.rect a.rect) (gap_y b.rect a.rect) (spacing_of tech b.layer)) l
    ∙ ap (λ (z : Bool). (b.layer.0 == a.layer.0) && not z && is_near_of (gap_x b.rect a.rect) (gap_y b.rect a.rect) (spacing_of tech b.layer)) o

-- a legal walk breaks no rule
walk_breaks_no_rule : (d : Design) (s : State) (n : ℕ) (own : NetState) (w : Walk) (old : NetState) → slice_get s.nets n ≡ Some old → BreaksNoRule d s → IsLegal d n own (hard_reading d s) w → BreaksNoRule d (with_walk s n w)
walk_breaks_no_rule d s n own w old at before legal a b ca cb =
    let clear : (x y : Shape) → Contains (walk_shapes_of d n w) x → Contains (d.fixed ++ standing d s) y → conflict_of d.tech x y ≡ false =
    (λ x y cx cy. any_false (conflict_of d.tech x) (d.fixed ++ standing d s) y (any_false (λ z. list_any (conflict_of d.tech z) (d.fixed ++ standing d s)) (walk_shapes_of d n w) x legal.clear cx) cy) in
    let cases_b : Contains (d.fixed ++ standing d s) b ⊎ Contains (walk_shapes_of d n w) b = ⊎_elim
    (λ (f : Contains d.fixed b). inl (Contains-append_left d.fixed (standing d s) b f))
    (λ (t : Contains (standing d (with_walk s n w)) b). ⊎_elim
    (λ (o : Contains (standing d s) b). inl (Contains-append_right d.fixed (standing d s) b o))
    (λ (m : Contains (walk_shapes_of d n w) b). inr m)
    (standing_cases d s n w old b at t))
    (Contains-append_cases d.fixed (standing d (with_walk s n w)) b cb) in
    ⊎_elim
    (λ (oa : Contains (standing d s) a). ⊎_elim
    (λ (ob : Contains (d.fixed ++ standing d s) b). before a b oa ob)
    (λ (nb : Contains (walk_shapes_of d n w) b). conflict_flip d.tech a b ∙ clear b a nb (Contains-append_right d.fixed (standing d s) a oa))
    cases_b)
    (λ (na : Contains (walk_shapes_of d n w) a). ⊎_elim
    (λ (ob : Contains (d.fixed ++ standing d s) b). clear a b na ob)
    (λ (nb : Contains (walk_shapes_of d n w) b). own_fine d.tech n a b (parts_owner n (walk_parts d n w) a na) (parts_owner n (walk_parts d n w) b nb))
    cases_b)
    (standing_cases d s n w old a at ca)

-- emptied nets leave fewer shapes
emptied-standing : (d : Design) (s : State) (ns : List ℕ) (a : Shape) → Contains (standing d (emptied s ns)) a → Contains (standing d s) a
emptied-standing d s [] a c = c
emptied-standing d s (n ∷ ns) a c = ⊎_elim
    (λ (before : Contains (standing d s) a). before)
    (λ (none : Contains (net_shapes d (0 + n) (emptied_net (net_state s n))) a). absurd (none_in a none))
    (standing_set d s.nets n 0 (emptied_net (net_state s n)) a (emptied-standing d (with_net s n (emptied_net (net_state s n))) ns a c))

-- where no more stands no more rules are broken
fewer_break_no_rule : (d : Design) (s t : State) → ((a : Shape) → Contains (standing d t) a → Contains (standing d s) a) → BreaksNoRule d s → BreaksNoRule d t
fewer_break_no_rule d s t stood before a b ca cb = before a b (stood a ca) (⊎_elim
    (λ (f : Contains d.fixed b). Contains-append_left d.fixed (standing d s) b f)
    (λ (l : Contains (standing d t) b). Contains-append_right d.fixed (standing d s) b (stood b l))
    (Contains-append_cases d.fixed (standing d t) b cb))

abbrev HasEachNet : Design → State → Type 0
HasEachNet d s = length s.nets ≡ length d.nets

none_some : (k : NetKind) → (let o : Option NetKind = None in o ≡ Some k) → ⊥
none_some k h = cc

-- a routable net stands in the state
stands : (d : Design) (s : State) (n : ℕ) → HasEachNet d s → IsRoutable d n → slice_get s.nets n ≡ Some (net_state s n)
stands d s n each r = ⊎_elim
    (λ (l : n < length d.nets).
    slice_get-get_or s.nets n blank (subst (λ (k : ℕ). n < k) (sym each) l)
    ∙ ap (λ (x : NetState). Some x) (sym (unwrap_or-slice_get s.nets n blank)))
    (λ (past : length d.nets ≤ n). absurd (none_some Routable (ap (λ (o : Option Net). option_map (λ (net : Net). net.kind) o) (sym (slice_get_past d.nets n past)) ∙ r)))
    (cases_lt n (length d.nets))

mark-standing : (d : Design) (s : State) (n : ℕ) → slice_get s.nets n ≡ Some (net_state s n) → (a : Shape) → Contains (standing d (with_mark s n)) a → Contains (standing d s) a
mark-standing d s n at a c = ⊎_elim
    (λ (before : Contains (standing d s) a). before)
    (λ (own : Contains (net_shapes d (0 + n) (net_state s n)) a). standing_has d s.nets n 0 (net_state s n) a at own)
    (standing_set d s.nets n 0 _ a c)

-- a right block breaks no rule
after_breaks_no_rule : (d : Design) (s : State) (b : Block) → HasEachNet d s → IsRight d s b → BreaksNoRule d s → BreaksNoRule d (after s b)
after_breaks_no_rule d s (Wire n w) each h before = walk_breaks_no_rule d s n (net_state s n) w (net_state s n) (stands d s n each h.waiting.routable) before h.walk.legal
after_breaks_no_rule d s (Stuck n) each h before = fewer_break_no_rule d s (with_mark s n) (mark-standing d s n (stands d s n each h.waiting.routable)) before
after_breaks_no_rule d s (RipFor n soft ripped w) each h before =
    walk_breaks_no_rule d (emptied s ripped) n (net_state s n) w (net_state (emptied s ripped) n)
    (stands d (emptied s ripped) n (length-emptied s ripped ∙ each) h.waiting.routable)
    (fewer_break_no_rule d s (emptied s ripped) (emptied-standing d s ripped) before)
    (subst (λ (r : Reading). IsLegal d n (net_state s n) r w) (sym (emptied-reading d s ripped)) h.walk.legal)

after-each : (d : Design) (s : State) (b : Block) → HasEachNet d s → HasEachNet d (after s b)
after-each d s (Wire n w) each = length-set s.nets n _ ∙ each
after-each d s (Stuck n) each = length-set s.nets n _ ∙ each
after-each d s (RipFor n soft ripped w) each = length-set (emptied s ripped).nets n _ ∙ length-emptied s ripped ∙ each

history_breaks_no_rule : (d : Design) (s : State) (blocks : List Block) → HasEachNet d s → IsHistoryFrom d s blocks → BreaksNoRule d s → BreaksNoRule d (fold after s blocks)
history_breaks_no_rule d s [] each h before = before
history_breaks_no_rule d s (b ∷ bs) each h before = history_breaks_no_rule d (after s b) bs (after-each d s b each) h.1 (after_breaks_no_rule d s b each h.0 before)

nothing_stands : (d : Design) (n : ℕ) (nets : List Net) (a : Shape) → Contains (standing_from d every_net n (map fresh nets)) a → ⊥
nothing_stands d n [] a c = none_in a c
nothing_stands d n (net ∷ nets) a c = nothing_stands d (n + 1) nets a c

-- after a history no rule is broken
pub IsHistory-breaks_no_rule : (d : Design) (blocks : List Block) → IsHistory d blocks → BreaksNoRule d (state_of d blocks)
IsHistory-breaks_no_rule d blocks h = history_breaks_no_rule d (first_state d) blocks (length-map d.nets fresh) h (λ a b ca cb. absurd (nothing_stands d 0 d.nets a ca))
