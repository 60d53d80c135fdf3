-- Marks of a history: a marked net has a pin that isn't joined, and its mark stands in the journal.
use Rattle.std.proofs.Common.{◌≡◌, ◌∙◌, ⊎_elim, ℕ, zero, suc, List, [], ◌∷◌, Bool, true, false, ◌||◌, not, IsTrue, Option, Some, None, option_map, unwrap_or, refl, sym, ap, slice_get, slice_set, fold}
use Rattle.std.proofs.lemmas.Bool.{cases_eq}
use Rattle.std.proofs.lemmas.Option.{slice_get-map}
use Rattle.track_graph.specs.declared.design.Design.{Design}
use Rattle.track_graph.specs.declared.design.Net.{Net}
use Rattle.track_graph.specs.declared.history.Block.{Block}
use Rattle.track_graph.specs.declared.history.Block.TheVariants.{Wire, Stuck, RipFor}
use Rattle.track_graph.specs.declared.history.NetState.{NetState}
use Rattle.track_graph.specs.declared.history.State.{State}
use Rattle.track_graph.specs.Histories.{all_joined, IsFinishedHistory, IsHistoryFrom, IsRight, IsRoutable}
use Rattle.track_graph.specs.States.{after, emptied, emptied_net, first_state, fresh, net_state, state_of, with_net}
use Rattle.track_graph.proofs.StateLemmas.{blank, net_state-other}
use Rattle.ripup.specs.Headline.{AreMarked, StandsBehind}

abbrev pub at : List NetState → ℕ → NetState
at nets n = unwrap_or (slice_get nets n) blank

-- what holds of a net's old and new state holds after the change of one net
pub set-at : (P : NetState → Type 0) (nets : List NetState) (m n : ℕ) (new : NetState) → P new → P (at nets n) → P (at (slice_set nets m new) n)
set-at P [] m n new p h = h
set-at P (x ∷ xs) zero zero new p h = p
set-at P (x ∷ xs) zero (suc n) new p h = h
set-at P (x ∷ xs) (suc m) zero new p h = h
set-at P (x ∷ xs) (suc m) (suc n) new p h = set-at P xs m n new p h

abbrev IsUnmarked : NetState → Type 0
IsUnmarked net = net.stuck ≡ false

emptied-unmarked : (s : State) (ns : List ℕ) (n : ℕ) → IsUnmarked (net_state s n) → IsUnmarked (net_state (emptied s ns) n)
emptied-unmarked s [] n h = h
emptied-unmarked s (m ∷ ns) n h = emptied-unmarked (with_net s m (emptied_net (net_state s m))) ns n (set-at IsUnmarked s.nets m n (emptied_net (net_state s m)) refl h)

-- a net is marked by its mark alone
mark-is_block : (d : Design) (s : State) (n : ℕ) (b : Block) → IsRight d s b → IsUnmarked (net_state s n) → (net_state (after s b) n).stuck ≡ true → b ≡ Stuck n
mark-is_block d s n (Wire m w) right before marked =
    let unmarked : IsUnmarked (net_state (after s (Wire m w)) n) = set-at IsUnmarked s.nets m n _ right.waiting.not_stuck before in
    cc
mark-is_block d s n (Stuck m) right before marked = ⊎_elim
    (λ (e : n ≡ m). ap (λ (k : ℕ). Stuck k) (sym e))
    (λ (other : n ≡ m → ⊥).
    let stays : (net_state (after s (Stuck m)) n).stuck ≡ (net_state s n).stuck = ap (λ (net : NetState). net.stuck) (net_state-other s m n _ other) in
    cc)
    (cases_eq n m)
mark-is_block d s n (RipFor m soft ripped w) right before marked =
    let t : State = emptied s ripped in
    let unmarked : IsUnmarked (net_state (after s (RipFor m soft ripped w)) n) =
    set-at IsUnmarked t.nets m n _ (emptied-unmarked s ripped m right.waiting.not_stuck) (emptied-unmarked s ripped n before) in
    cc

-- the mark of a marked net stands among the blocks
mark-stands : (d : Design) (s : State) (n : ℕ) (blocks : List Block) → IsHistoryFrom d s blocks → IsUnmarked (net_state s n) → (net_state (fold after s blocks) n).stuck ≡ true → (before : List Block) × StandsBehind blocks before (Stuck n)
mark-stands d s n [] h before marked = cc
mark-stands d s n (b ∷ bs) h before marked = by_mark (net_state (after s b) n).stuck refl (λ e. mark-stands d (after s b) n bs h.1 e marked)
  where
    by_mark : (v : Bool) → (net_state (after s b) n).stuck ≡ v → (IsUnmarked (net_state (after s b) n) → (later : List Block) × StandsBehind bs later (Stuck n)) → (before : List Block) × StandsBehind (b ∷ bs) before (Stuck n)
    by_mark true e stands = ([], (bs, ap (λ (x : Block). x ∷ bs) (mark-is_block d s n b h.0 before e)))
    by_mark false e stands = let later = stands e in (b ∷ later.0, (later.1.0, ap (λ (xs : List Block). b ∷ xs) later.1.1))

-- a marked net has a pin that isn't joined
abbrev IsOpenIfMarked : NetState → Type 0
IsOpenIfMarked net = net.stuck ≡ true → all_joined net ≡ false

differ : true ≡ false → ⊥
differ e = cc

emptied-open : (s : State) (ns : List ℕ) → ((n : ℕ) → IsOpenIfMarked (net_state s n)) → (n : ℕ) → IsOpenIfMarked (net_state (emptied s ns) n)
emptied-open s [] h n = h n
emptied-open s (m ∷ ns) h n = emptied-open (with_net s m (emptied_net (net_state s m))) ns (λ k. set-at IsOpenIfMarked s.nets m k (emptied_net (net_state s m)) (λ e. absurd (differ (sym e))) (h k)) n

after-open : (d : Design) (s : State) (b : Block) → IsRight d s b → ((n : ℕ) → IsOpenIfMarked (net_state s n)) → (n : ℕ) → IsOpenIfMarked (net_state (after s b) n)
after-open d s (Wire m w) right h n = set-at IsOpenIfMarked s.nets m n _ (λ e. absurd (differ (sym e ∙ right.waiting.not_stuck))) (h n)
after-open d s (Stuck m) right h n = set-at IsOpenIfMarked s.nets m n _ (λ e. right.waiting.unjoined) (h n)
after-open d s (RipFor m soft ripped w) right h n =
    let t : State = emptied s ripped in
    set-at IsOpenIfMarked t.nets m n _ (λ e. absurd (differ (sym e ∙ emptied-unmarked s ripped m right.waiting.not_stuck))) (emptied-open s ripped h n)

history-open : (d : Design) (s : State) (blocks : List Block) → IsHistoryFrom d s blocks → ((n : ℕ) → IsOpenIfMarked (net_state s n)) → (n : ℕ) → IsOpenIfMarked (net_state (fold after s blocks) n)
history-open d s [] right h n = h n
history-open d s (b ∷ bs) right h n = history-open d (after s b) bs right.1 (after-open d s b right.0 h) n

-- at first no net is marked
first-unmarked : (d : Design) (n : ℕ) → IsUnmarked (net_state (first_state d) n)
first-unmarked d n = ap (λ (o : Option NetState). (unwrap_or o blank).stuck) (slice_get-map fresh d.nets n) ∙ fresh-unmarked (slice_get d.nets n)
  where
    fresh-unmarked : (o : Option Net) → (unwrap_or (option_map fresh o) blank).stuck ≡ false
    fresh-unmarked None = refl
    fresh-unmarked (Some net) = refl

marked_if_open : (a b : Bool) → IsTrue (a || b) → (b ≡ true → a ≡ false) → b ≡ not a
marked_if_open true true finished open_if = absurd (differ (open_if refl))
marked_if_open true false finished open_if = refl
marked_if_open false true finished open_if = refl
marked_if_open false false finished open_if = cc

-- at the end of a finished history exactly the nets with an open pin are marked, each by a block
pub IsFinishedHistory-marked : (d : Design) (blocks : List Block) → IsFinishedHistory d blocks → AreMarked d blocks
IsFinishedHistory-marked d blocks h =
    let s : State = state_of d blocks in
    let exactly : (n : ℕ) → IsRoutable d n → (net_state s n).stuck ≡ not (all_joined (net_state s n)) =
    λ n routable. marked_if_open (all_joined (net_state s n)) (net_state s n).stuck (h.finished n routable)
    (history-open d (first_state d) blocks h.history (λ m e. absurd (differ (sym e ∙ first-unmarked d m))) n) in
    record {
      exactly = exactly;
      by_block = λ n routable unjoined. mark-stands d (first_state d) n blocks h.history (first-unmarked d n) (exactly n routable ∙ ap not unjoined);
    }
