-- Nets with blocks: each net that is ripped has some, and each net with blocks is routable.
use Rattle.std.proofs.Common.{◌≡◌, ◌≢◌, ◌⊎◌, ⊎_elim, inl, inr, ℕ, suc, ◌+◌, ◌-◌, ◌<◌, ◌≤◌, List, [], ◌∷◌, ◌++◌, Bool, true, false, cond, ◌&&◌, Option, Some, None, option_map, unwrap_or, slice_get, length, fold, All, Contains, refl, sym, ap, ◌∙◌, subst, arith}
use Rattle.std.proofs.lemmas.Bool.{cases_eq, cases_lt}
use Rattle.std.proofs.lemmas.List.Elements.{All-nil, All-cons, Contains-append_cases}
use Rattle.std.proofs.lemmas.Option.{slice_get-map}
use Rattle.rt_base.proofs.Lists.{All-at, in_cons, none_in}
use Rattle.rt_base.specs.declared.walk.Walk.{Walk}
use Rattle.rt_base.specs.declared.tech.Shape.{Shape}
use Rattle.track_graph.specs.declared.design.Design.{Design}
use Rattle.track_graph.specs.declared.design.Net.{Net}
use Rattle.track_graph.specs.declared.history.Block.{Block}
use Rattle.track_graph.specs.declared.history.Block.TheVariants.{Wire, Stuck, RipFor}
use Rattle.track_graph.specs.declared.history.NetState.{NetState}
use Rattle.track_graph.specs.declared.history.State.{State}
use Rattle.track_graph.specs.Histories.{crossed_from, IsHistory, IsHistoryFrom, IsRight, IsRoutable}
use Rattle.track_graph.specs.Orders.{net_of}
use Rattle.track_graph.specs.Readings.{may_rip}
use Rattle.track_graph.specs.Searches.{some_conflict}
use Rattle.track_graph.specs.States.{after, emptied, emptied_net, first_state, fresh, net_shapes, net_state, state_of, with_net}
use Rattle.track_graph.specs.Walks.{walk_shapes_of}
use Rattle.track_graph.proofs.StateLemmas.{blank, emptied-others, net_state-other}
use Rattle.ripup.specs.Headline.{HasBlockOf}
use Rattle.ripup.specs.Progress.{ripped_by}
use Rattle.ripup.proofs.BlockLists.{at_left, at_right, to_left}
use Rattle.ripup.proofs.MarkLemmas.{set-at}

-- a block of two lists is of one or of the other
pub has-cases : (xs ys : List Block) (n : ℕ) → HasBlockOf (xs ++ ys) n → HasBlockOf xs n ⊎ HasBlockOf ys n
has-cases xs ys n (i, b, at, is) = ⊎_elim
    (λ (l : i < length xs). inl (i, b, at_left xs ys i b l at, is))
    (λ (r : length xs ≤ i). inr (i - length xs, b, at_right xs ys i b r at, is))
    (cases_lt i (length xs))

pub has-left : (xs ys : List Block) (n : ℕ) → HasBlockOf xs n → HasBlockOf (xs ++ ys) n
has-left xs ys n (i, b, at, is) = (i, b, to_left xs ys i b at, is)

-- what holds of the net of each block holds of each net with a block
pub has-of : (P : ℕ → Type 0) (blocks : List Block) (n : ℕ) → All (λ b. P (net_of b)) blocks → HasBlockOf blocks n → P n
has-of P blocks n all (i, b, at, is) = subst P is (All-at (λ x. P (net_of x)) blocks i b all at)

right-routable : (d : Design) (s : State) (b : Block) → IsRight d s b → IsRoutable d (net_of b)
right-routable d s (Wire n w) h = h.waiting.routable
right-routable d s (Stuck n) h = h.waiting.routable
right-routable d s (RipFor n soft ripped w) h = h.waiting.routable

routable-from : (d : Design) (s : State) (blocks : List Block) → IsHistoryFrom d s blocks → All (λ b. IsRoutable d (net_of b)) blocks
routable-from d s [] h = All-nil (λ b. IsRoutable d (net_of b))
routable-from d s (b ∷ bs) h = All-cons (λ x. IsRoutable d (net_of x)) b bs (right-routable d s b h.0) (routable-from d (after s b) bs h.1)

-- each net with a block in a history is routable
pub has-routable : (d : Design) (blocks : List Block) (n : ℕ) → IsHistory d blocks → HasBlockOf blocks n → IsRoutable d n
has-routable d blocks n h has = has-of (IsRoutable d) blocks n (routable-from d (first_state d) blocks h) has

-- other nets than those of a block and those that it rips stay as they are
pub after-others : (s : State) (m : ℕ) (b : Block) → m ≢ net_of b → (Contains (ripped_by b) m → ⊥) → net_state (after s b) m ≡ net_state s m
after-others s m (Wire n w) other spared = net_state-other s n m _ other
after-others s m (Stuck n) other spared = net_state-other s n m _ other
after-others s m (RipFor n soft ripped w) other spared = net_state-other (emptied s ripped) n m _ other ∙ emptied-others s ripped m spared

abbrev IsWired : NetState → Type 0
IsWired net = net.walks ≢ []

emptied-wired : (s : State) (ns : List ℕ) (m : ℕ) → IsWired (net_state (emptied s ns) m) → IsWired (net_state s m)
emptied-wired s [] m h = h
emptied-wired s (n ∷ ns) m h =
    set-at (λ x. IsWired x → IsWired (net_state s m)) s.nets n m (emptied_net (net_state s n)) (λ wired. absurd (wired refl)) (λ wired. wired)
    (emptied-wired (with_net s n (emptied_net (net_state s n))) ns m h)

after-wired : (s : State) (m : ℕ) (b : Block) → m ≢ net_of b → IsWired (net_state (after s b) m) → IsWired (net_state s m)
after-wired s m (Wire n w) other h = subst IsWired (net_state-other s n m _ other) h
after-wired s m (Stuck n) other h = subst IsWired (net_state-other s n m _ other) h
after-wired s m (RipFor n soft ripped w) other h = emptied-wired s ripped m (subst IsWired (net_state-other (emptied s ripped) n m _ other) h)

has-later : (b : Block) (bs : List Block) (n : ℕ) → HasBlockOf bs n → HasBlockOf (b ∷ bs) n
has-later b bs n (i, x, at, is) = (suc i, x, at, is)

wired-from : (s : State) (blocks : List Block) (m : ℕ) → IsWired (net_state (fold after s blocks) m) → IsWired (net_state s m) ⊎ HasBlockOf blocks m
wired-from s [] m h = inl h
wired-from s (b ∷ bs) m h = ⊎_elim
    (λ (wired : IsWired (net_state (after s b) m)). ⊎_elim
    (λ (e : m ≡ net_of b). inr (0, b, refl, sym e))
    (λ (other : m ≢ net_of b). inl (after-wired s m b other wired))
    (cases_eq m (net_of b)))
    (λ (later : HasBlockOf bs m). inr (has-later b bs m later))
    (wired-from (after s b) bs m h)

first-unwired : (d : Design) (m : ℕ) → (net_state (first_state d) m).walks ≡ []
first-unwired d m = ap (λ (o : Option NetState). (unwrap_or o blank).walks) (slice_get-map fresh d.nets m) ∙ fresh-unwired (slice_get d.nets m)
  where
    fresh-unwired : (o : Option Net) → (unwrap_or (option_map fresh o) blank).walks ≡ []
    fresh-unwired None = refl
    fresh-unwired (Some net) = refl

-- a net with walks has a block
wired-has : (d : Design) (blocks : List Block) (m : ℕ) → IsWired (net_state (state_of d blocks) m) → HasBlockOf blocks m
wired-has d blocks m h = ⊎_elim
    (λ (wired : IsWired (net_state (first_state d) m)). absurd (wired (first-unwired d m)))
    (λ (has : HasBlockOf blocks m). has)
    (wired-from (first_state d) blocks m h)

-- net m stands in the list, of which the first has number k, and has walks
record IsStanding (m k : ℕ) (nets : List NetState) : Type 0 where
  pub place : ℕ
  pub net : NetState
  pub number : m ≡ k + place
  pub at : slice_get nets place ≡ Some net
  pub wired : IsWired net

none-conflict : (d : Design) (mine : List Shape) → some_conflict d.tech mine [] ≡ false
none-conflict d [] = refl
none-conflict d (a ∷ mine) = none-conflict d mine

meets-wired : (d : Design) (n k : ℕ) (w : Walk) (net : NetState) → (may_rip d n k net && some_conflict d.tech (walk_shapes_of d n w) (net_shapes d k net)) ≡ true → IsWired net
meets-wired d n k w net h none =
    let clear : some_conflict d.tech (walk_shapes_of d n w) (net_shapes d k net) ≡ false =
    subst (λ (ws : List Walk). some_conflict d.tech (walk_shapes_of d n w) (net_shapes d k (record { walks = ws; joined = net.joined; rips = net.rips; stuck = net.stuck })) ≡ false) (sym none) (none-conflict d (walk_shapes_of d n w)) in
    both (may_rip d n k net) _ h clear
  where
    both : (a b : Bool) → (a && b) ≡ true → b ≡ false → ⊥
    both true b h e = cc
    both false b h e = cc

in_if : (k m : ℕ) (t : Bool) → Contains (cond t (k ∷ []) []) m → (m ≡ k) × (t ≡ true)
in_if k m true c = ⊎_elim (λ (e : m ≡ k). (e, refl)) (λ (none : Contains [] m). absurd (none_in m none)) (in_cons k [] m c)
in_if k m false c = absurd (none_in m c)

crossed-standing : (d : Design) (n : ℕ) (w : Walk) (m k : ℕ) (nets : List NetState) → Contains (crossed_from d n w k nets) m → IsStanding m k nets
crossed-standing d n w m k [] c = absurd (none_in m c)
crossed-standing d n w m k (net ∷ nets) c =
    let t : Bool = may_rip d n k net && some_conflict d.tech (walk_shapes_of d n w) (net_shapes d k net) in
    ⊎_elim
    (λ (here : Contains (cond t (k ∷ []) []) m).
    let is : (m ≡ k) × (t ≡ true) = in_if k m t here in
    let r : IsStanding m k (net ∷ nets) = record { place = 0; net = net; number = omega (arith, is.0); at = refl; wired = meets-wired d n k w net is.1 } in
    r)
    (λ (later : Contains (crossed_from d n w (k + 1) nets) m).
    let rest : IsStanding m (k + 1) nets = crossed-standing d n w m (k + 1) nets later in
    let r : IsStanding m k (net ∷ nets) = record { place = suc rest.place; net = rest.net; number = omega (arith, rest.number); at = rest.at; wired = rest.wired } in
    r)
    (Contains-append_cases (cond t (k ∷ []) []) (crossed_from d n w (k + 1) nets) m c)

crossed-wired : (d : Design) (s : State) (n : ℕ) (w : Walk) (m : ℕ) → Contains (crossed_from d n w 0 s.nets) m → IsWired (net_state s m)
crossed-wired d s n w m c =
    let h : IsStanding m 0 s.nets = crossed-standing d n w m 0 s.nets c in
    let same : m ≡ h.place = omega (arith, h.number) in
    let at : net_state s m ≡ h.net = ap (λ (k : ℕ). net_state s k) same ∙ ap (λ (o : Option NetState). unwrap_or o blank) h.at in
    subst IsWired (sym at) h.wired

-- each net that a right block rips has a block before
pub ripped-has : (d : Design) (blocks : List Block) (b : Block) (m : ℕ) → IsRight d (state_of d blocks) b → Contains (ripped_by b) m → HasBlockOf blocks m
ripped-has d blocks (Wire n w) m right c = absurd (none_in m c)
ripped-has d blocks (Stuck n) m right c = absurd (none_in m c)
ripped-has d blocks (RipFor n soft ripped w) m right c =
    wired-has d blocks m (crossed-wired d (state_of d blocks) n soft m (subst (λ (ns : List ℕ). Contains ns m) right.ripped_exactly c))
