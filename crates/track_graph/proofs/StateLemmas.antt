-- Laws of states: what a change of one net leaves, and that blocks keep a state one of its design.
use Rattle.std.proofs.Common.{◌≡◌, ◌≢◌, ◌⊎◌, ⊎_elim, inl, inr, ℕ, suc, ◌<◌, List, [], ◌∷◌, ◌++◌, Bool, true, false, sym, refl, ap, ◌∙◌, subst, Some, None, Option, option_map, unwrap_or, length, slice_get, slice_set, replicate, All, Contains, arith}
use Rattle.std.proofs.lemmas.List.{length-set, length-map, get_or-set_same, get_or-set_other, set_comm}
use Rattle.std.proofs.lemmas.List.Elements.{All-nil, All-push, All-tail}
use Rattle.std.proofs.lemmas.Bool.{cases_eq}
use Rattle.std.proofs.lemmas.Option.{unwrap_or-slice_get, slice_get-map}
use Rattle.std.proofs.lemmas.Simd.{splat_is_map}
use Rattle.rt_base.specs.declared.walk.Walk.{Walk}
use Rattle.rt_base.proofs.Lists.{in_cons}
use Rattle.track_graph.specs.NetWalks.{IsWalkOf}
use Rattle.track_graph.specs.declared.design.Design.{Design}
use Rattle.track_graph.specs.declared.design.Net.{Net}
use Rattle.track_graph.specs.declared.design.Pin.{Pin}
use Rattle.track_graph.specs.declared.history.NetState.{NetState}
use Rattle.track_graph.specs.declared.history.State.{State}
use Rattle.track_graph.specs.Conditions.{IsNetOf, IsStateOf}
use Rattle.track_graph.specs.Entries.{pins_of, pin_of}
use Rattle.track_graph.specs.States.{emptied, emptied_net, first_joined, first_state, fresh, set_at, join_pin, keep_first, net_state, with_net, with_mark, with_walk}

-- of equally many false values the first one made true
pub keep_first-replicate : (bs : List Bool) → 0 < length bs → slice_set (replicate (length bs) false) 0 true ≡ keep_first bs
keep_first-replicate [] h = absurd (omega arith)
keep_first-replicate (b ∷ bs) h = ap (λ xs. true ∷ xs) (splat_is_map bs (length bs) false refl)

pub first_joined-replicate : (ps : List Pin) → 0 < length ps → slice_set (replicate (length ps) false) 0 true ≡ first_joined ps
first_joined-replicate [] h = absurd (omega arith)
first_joined-replicate (p ∷ ps) h = ap (λ xs. true ∷ xs) (splat_is_map ps (length ps) false refl)

pub first_joined-none : (ps : List Pin) → length ps ≡ 0 → replicate (length ps) false ≡ first_joined ps
first_joined-none [] h = refl
first_joined-none (p ∷ ps) h = absurd (omega arith)

-- what stands of no net
abbrev pub blank : NetState
blank = record { walks = []; joined = []; rips = 0; stuck = false }

pub net_state-other : (s : State) (n m : ℕ) (net : NetState) → m ≢ n → net_state (with_net s n net) m ≡ net_state s m
net_state-other s n m net h = unwrap_or-slice_get (slice_set s.nets n net) m blank ∙ get_or-set_other s.nets n m net blank h ∙ sym (unwrap_or-slice_get s.nets m blank)

pub net_state-same : (s : State) (n : ℕ) (net : NetState) → n < length s.nets → net_state (with_net s n net) n ≡ net
net_state-same s n net h = unwrap_or-slice_get (slice_set s.nets n net) n blank ∙ get_or-set_same s.nets n net blank h

-- one net more is emptied
pub emptied-push : (s : State) (ns : List ℕ) (m : ℕ) → emptied s (ns ++ m ∷ []) ≡ with_net (emptied s ns) m (emptied_net (net_state (emptied s ns) m))
emptied-push s [] m = refl
emptied-push s (n ∷ ns) m = emptied-push (with_net s n (emptied_net (net_state s n))) ns m

pub length-emptied : (s : State) (ns : List ℕ) → length (emptied s ns).nets ≡ length s.nets
length-emptied s [] = refl
length-emptied s (n ∷ ns) = length-emptied (with_net s n (emptied_net (net_state s n))) ns ∙ length-set s.nets n (emptied_net (net_state s n))

abbrev longer : NetState → Walk → NetState
longer net w = record { walks = net.walks ++ w ∷ []; joined = join_pin w.finish.kind net.joined; rips = net.rips; stuck = net.stuck }

-- a net is emptied after another one got a walk, or before
empty-with_walk : (s : State) (n m : ℕ) (w : Walk) → m ≢ n → with_net (with_walk s n w) m (emptied_net (net_state (with_walk s n w) m)) ≡ with_walk (with_net s m (emptied_net (net_state s m))) n w
empty-with_walk s n m w h =
    let old : NetState = emptied_net (net_state s m) in
    let long : NetState = longer (net_state s n) w in
    let m_stays : net_state (with_walk s n w) m ≡ net_state s m = net_state-other s n m long h in
    let n_stays : net_state (with_net s m old) n ≡ net_state s n = net_state-other s m n old (λ e. h (sym e)) in
    ap (λ (x : NetState). with_net (with_walk s n w) m (emptied_net x)) m_stays
    ∙ ap (λ (xs : List NetState). let r : State = record { nets = xs } in r) (set_comm s.nets n m long old (λ e. h (sym e)))
    ∙ sym (ap (λ (x : NetState). with_net (with_net s m old) n (longer x w)) n_stays)

-- nets are emptied after another one got a walk, or before
pub emptied-with_walk : (s : State) (n : ℕ) (w : Walk) (ns : List ℕ) → All (λ m. m ≢ n) ns → emptied (with_walk s n w) ns ≡ with_walk (emptied s ns) n w
emptied-with_walk s n w [] h = refl
emptied-with_walk s n w (m ∷ ns) h =
    ap (λ (t : State). emptied t ns) (empty-with_walk s n m w (h 0 m (omega arith)))
    ∙ emptied-with_walk (with_net s m (emptied_net (net_state s m))) n w ns (All-tail (λ m. m ≢ n) m ns h)

-- a net has no walk once it is emptied, or if it had none
empty-has_none : (s : State) (n m : ℕ) → n < length s.nets → (n ≡ m) ⊎ ((net_state s n).walks ≡ []) → (net_state (with_net s m (emptied_net (net_state s m))) n).walks ≡ []
empty-has_none s n m l h =
    let P : ℕ → Type 0 = λ k. (net_state (with_net s k (emptied_net (net_state s k))) n).walks ≡ [] in
    let here : n ≡ m → P m = λ e. subst P e (ap (λ (x : NetState). x.walks) (net_state-same s n (emptied_net (net_state s n)) l)) in
    ⊎_elim here
    (λ (none : (net_state s n).walks ≡ []). ⊎_elim here
    (λ (other : n ≡ m → ⊥). ap (λ (x : NetState). x.walks) (net_state-other s m n (emptied_net (net_state s m)) other) ∙ none)
    (cases_eq n m))
    h

emptied-keeps_none : (s : State) (n : ℕ) (ns : List ℕ) → n < length s.nets → (net_state s n).walks ≡ [] → (net_state (emptied s ns) n).walks ≡ []
emptied-keeps_none s n [] l h = h
emptied-keeps_none s n (m ∷ ns) l h =
    emptied-keeps_none (with_net s m (emptied_net (net_state s m))) n ns
    (subst (λ (k : ℕ). n < k) (sym (length-set s.nets m (emptied_net (net_state s m)))) l)
    (empty-has_none s n m l (inr h))

-- an emptied net has no walk
pub emptied-has_none : (s : State) (n : ℕ) (ns : List ℕ) → n < length s.nets → Contains ns n → (net_state (emptied s ns) n).walks ≡ []
emptied-has_none s n [] l c = absurd (omega (arith, c.1))
emptied-has_none s n (m ∷ ns) l c =
    let stays : n < length (with_net s m (emptied_net (net_state s m))).nets = subst (λ (k : ℕ). n < k) (sym (length-set s.nets m (emptied_net (net_state s m)))) l in
    ⊎_elim
    (λ (e : n ≡ m). emptied-keeps_none (with_net s m (emptied_net (net_state s m))) n ns stays (empty-has_none s n m l (inl e)))
    (λ (later : Contains ns n). emptied-has_none (with_net s m (emptied_net (net_state s m))) n ns stays later)
    (in_cons m ns n c)

-- the other nets stand as before
pub emptied-others : (s : State) (ns : List ℕ) (n : ℕ) → (Contains ns n → ⊥) → net_state (emptied s ns) n ≡ net_state s n
emptied-others s [] n h = refl
emptied-others s (m ∷ ns) n h =
    emptied-others (with_net s m (emptied_net (net_state s m))) ns n (λ c. h (suc c.0, omega (arith, c.1), c.2))
    ∙ net_state-other s m n (emptied_net (net_state s m)) (λ e. h (0, omega arith, sym e))

length-keep_first : (bs : List Bool) → length (keep_first bs) ≡ length bs
length-keep_first [] = refl
length-keep_first (b ∷ bs) = ap (λ k. suc k) (length-map bs (λ _. false))

length-first_joined : (ps : List Pin) → length (first_joined ps) ≡ length ps
length-first_joined [] = refl
length-first_joined (p ∷ ps) = ap (λ k. suc k) (length-map ps (λ _. false))

length-set_at : (o : Option ℕ) (bs : List Bool) → length (set_at o bs) ≡ length bs
length-set_at None bs = refl
length-set_at (Some pin) bs = length-set bs pin true

-- a change of one net that keeps the number of its pins
with_net-kept : (d : Design) (s : State) (n : ℕ) (net : NetState) → IsStateOf d s → IsNetOf d n → length net.joined ≡ length (net_state s n).joined → All (IsWalkOf d n) net.walks → IsStateOf d (with_net s n net)
with_net-kept d s n net h l same walks =
    let within : n < length s.nets = subst (λ (k : ℕ). n < k) (sym h.nets) l in
    record {
      nets = length-set s.nets n net ∙ h.nets;
      pins = λ m. ⊎_elim
          (λ (e : m ≡ n). subst (λ (k : ℕ). length (net_state (with_net s n net) k).joined ≡ length (pins_of d k)) (sym e)
          (ap (λ (x : NetState). length x.joined) (net_state-same s n net within) ∙ same ∙ h.pins n))
          (λ (other : m ≡ n → ⊥). ap (λ (x : NetState). length x.joined) (net_state-other s n m net other) ∙ h.pins m)
          (cases_eq m n);
      walks = λ m. ⊎_elim
          (λ (e : m ≡ n). subst (λ (k : ℕ). All (IsWalkOf d k) (net_state (with_net s n net) k).walks) (sym e)
          (subst (λ (x : NetState). All (IsWalkOf d n) x.walks) (sym (net_state-same s n net within)) walks))
          (λ (other : m ≡ n → ⊥). subst (λ (x : NetState). All (IsWalkOf d m) x.walks) (sym (net_state-other s n m net other)) (h.walks m))
          (cases_eq m n);
    }

pub emptied-kept : (d : Design) (s : State) (ns : List ℕ) → IsStateOf d s → All (IsNetOf d) ns → IsStateOf d (emptied s ns)
emptied-kept d s [] h a = h
emptied-kept d s (n ∷ ns) h a =
    emptied-kept d (with_net s n (emptied_net (net_state s n))) ns
    (with_net-kept d s n (emptied_net (net_state s n)) h (a 0 n (omega arith)) (length-keep_first (net_state s n).joined) (All-nil (IsWalkOf d n)))
    (All-tail (IsNetOf d) n ns a)

pub with_mark-kept : (d : Design) (s : State) (n : ℕ) → IsStateOf d s → IsNetOf d n → IsStateOf d (with_mark s n)
with_mark-kept d s n h l = with_net-kept d s n _ h l refl (h.walks n)

pub with_walk-kept : (d : Design) (s : State) (n : ℕ) (w : Walk) → IsStateOf d s → IsWalkOf d n w → IsStateOf d (with_walk s n w)
with_walk-kept d s n w h walk =
    with_net-kept d s n (longer (net_state s n) w) h walk.net_walk.net (length-set_at (pin_of w.finish.kind) (net_state s n).joined)
    (All-push (IsWalkOf d n) (net_state s n).walks w (h.walks n) walk)

fresh-pins : (o : Option Net) → length (unwrap_or (option_map fresh o) blank).joined ≡ length (unwrap_or (option_map (λ (net : Net). net.pins) o) [])
fresh-pins None = refl
fresh-pins (Some net) = length-first_joined net.pins

-- after nets are emptied a state tells of as many pins
pub joined-emptied : (s : State) (ns : List ℕ) (n : ℕ) → n < length s.nets → length (net_state (emptied s ns) n).joined ≡ length (net_state s n).joined
joined-emptied s [] n l = refl
joined-emptied s (m ∷ ns) n l =
    let P : ℕ → Type 0 = λ k. length (net_state (with_net s k (emptied_net (net_state s k))) n).joined ≡ length (net_state s n).joined in
    let stays : n < length (with_net s m (emptied_net (net_state s m))).nets = subst (λ (k : ℕ). n < k) (sym (length-set s.nets m (emptied_net (net_state s m)))) l in
    joined-emptied (with_net s m (emptied_net (net_state s m))) ns n stays
    ∙ ⊎_elim
    (λ (e : n ≡ m). subst P e (ap (λ (x : NetState). length x.joined) (net_state-same s n (emptied_net (net_state s n)) l) ∙ length-keep_first (net_state s n).joined))
    (λ (other : n ≡ m → ⊥). ap (λ (x : NetState). length x.joined) (net_state-other s m n (emptied_net (net_state s m)) other))
    (cases_eq n m)

-- the first state is one of its design
pub first-kept : (d : Design) → IsStateOf d (first_state d)
first-kept d = record {
  nets = length-map d.nets fresh;
  pins = λ n. ap (λ (o : Option NetState). length (unwrap_or o blank).joined) (slice_get-map fresh d.nets n) ∙ fresh-pins (slice_get d.nets n);
  walks = λ n. subst (λ (ws : List Walk). All (IsWalkOf d n) ws) (sym (none n)) (All-nil (IsWalkOf d n));
}
  where
    fresh-none : (o : Option Net) → (unwrap_or (option_map fresh o) blank).walks ≡ []
    fresh-none None = refl
    fresh-none (Some net) = refl

    none : (n : ℕ) → (net_state (first_state d) n).walks ≡ []
    none n = ap (λ (o : Option NetState). (unwrap_or o blank).walks) (slice_get-map fresh d.nets n) ∙ fresh-none (slice_get d.nets n)
