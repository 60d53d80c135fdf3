-- What a turn of a net leaves, and what turns after one another leave.
use Rattle.std.proofs.Common.{◌≡◌, ◌≢◌, ◌∙◌, ◌⊎◌, ⊎_elim, inl, inr, ℕ, suc, ◌+◌, ◌<◌, ◌≤◌, List, [], ◌∷◌, ◌++◌, Bool, true, false, ◌&&◌, ◌||◌, not, IsTrue, Result, Ok, Err, OnOk, refl, sym, ap, subst, length, All, Contains, arith, length-append, append-nil, append_assoc}
use Rattle.std.proofs.lemmas.Bool.{cases_eq}
use Rattle.std.proofs.lemmas.List.Elements.{All-nil, All-cons, All-append, Contains-append_cases, Contains-append_left, Contains-append_right}
use Rattle.std.proofs.lemmas.List.Sorted.{length_permutation, Contains-permutation, IsPermutation-sym}
use Rattle.rt_base.proofs.Lists.{in_cons, none_in}
use Rattle.track_graph.specs.declared.design.Design.{Design}
use Rattle.track_graph.specs.declared.history.Block.{Block}
use Rattle.track_graph.specs.declared.history.Block.TheVariants.{Wire, Stuck, RipFor}
use Rattle.track_graph.specs.declared.history.NetState.{NetState}
use Rattle.track_graph.specs.declared.history.State.{State}
use Rattle.rt_base.specs.declared.memory.Memory.{Memory}
use Rattle.track_graph.specs.Conditions.{IsBlockOf, IsNetOf, IsStateOf}
use Rattle.track_graph.specs.Designs.{IsDesign}
use Rattle.track_graph.specs.Histories.{all_joined, IsRight, IsRoutable}
use Rattle.track_graph.specs.Orders.{net_of}
use Rattle.track_graph.specs.States.{after, emptied, emptied_net, net_state, with_net}
use Rattle.track_graph.proofs.BlockLemmas.{right-block_of}
use Rattle.track_graph.proofs.StateLemmas.{net_state-other}
use Rattle.ripup.specs.declared.progress.Progress.{Progress}
use Rattle.ripup.specs.Headline.{HasBlockOf}
use Rattle.ripup.specs.Hulls.{AreTakenNext}
use Rattle.ripup.specs.Progress.{effort_left, is_waiting, ripped_by, IsDone, IsSettling, IsTurn, IsUnderWay}
use Rattle.ripup.proofs.EffortLemmas.{after-less}
use Rattle.ripup.proofs.OrderLemmas.{all_weaker}
use Rattle.ripup.proofs.ProgressLemmas.{under_way-kept}
use Rattle.ripup.proofs.TakenLemmas.{has-cases, has-of, has-routable, ripped-has}

done_by : (joined stuck : Bool) → (not stuck && not joined) ≡ false → IsTrue (joined || stuck)
done_by true stuck h = refl
done_by false true h = refl
done_by false false h = absurd cc

-- a net that isn't waiting is done
not_waiting : (s : State) (n : ℕ) → is_waiting (net_state s n) ≡ false → IsDone s n
not_waiting s n h = done_by (all_joined (net_state s n)) (net_state s n).stuck h

same-done : (s t : State) (m : ℕ) → net_state t m ≡ net_state s m → IsDone s m → IsDone t m
same-done s t m same done = subst (λ (net : NetState). IsTrue (all_joined net || net.stuck)) (sym same) done

emptied-done : (s : State) (ns : List ℕ) (m : ℕ) → IsDone s m → IsDone (emptied s ns) m ⊎ Contains ns m
emptied-done s [] m done = inl done
emptied-done s (n ∷ ns) m done =
    let t : State = with_net s n (emptied_net (net_state s n)) in
    ⊎_elim
    (λ (e : m ≡ n). inr (0, omega arith, sym e))
    (λ (other : m ≢ n). ⊎_elim
    (λ (still : IsDone (emptied t ns) m). inl still)
    (λ (c : Contains ns m). inr (suc c.0, omega (arith, c.1), c.2))
    (emptied-done t ns m (same-done s t m (net_state-other s n m (emptied_net (net_state s n)) other) done)))
    (cases_eq m n)

-- what is done stays done, but for the nets that a block is of or rips
after-done : (s : State) (m : ℕ) (b : Block) → m ≢ net_of b → IsDone s m → IsDone (after s b) m ⊎ Contains (ripped_by b) m
after-done s m (Wire n w) other done = inl (same-done s (after s (Wire n w)) m (net_state-other s n m _ other) done)
after-done s m (Stuck n) other done = inl (same-done s (after s (Stuck n)) m (net_state-other s n m _ other) done)
after-done s m (RipFor n soft ripped w) other done = ⊎_elim
    (λ (still : IsDone (emptied s ripped) m). inl (same-done (emptied s ripped) (after s (RipFor n soft ripped w)) m (net_state-other (emptied s ripped) n m _ other) still))
    (λ (c : Contains ripped m). inr c)
    (emptied-done s ripped m done)

-- the turn of a net that isn't waiting
pub turn-idle : (d : Design) (n : ℕ) (run : Progress) (todo : List ℕ) → IsUnderWay d run → is_waiting (net_state run.state n) ≡ false → IsTurn d n run run todo todo
turn-idle d n run todo under_way idle = record {
  under_way = under_way;
  added = [];
  whole = sym (append-nil run.journal.blocks);
  of_net = All-nil (λ b. net_of b ≡ n);
  done = λ m h. inl (⊎_elim (λ (e : m ≡ n). subst (IsDone run.state) (sym e) (not_waiting run.state n idle)) (λ (done : IsDone run.state m). done) h);
  keeps = λ m c. c;
  only = λ m c. inl c;
  less = omega arith;
}

-- the turn of a net that gets a block
pub turn-block : (d : Design) (n : ℕ) (run old : Progress) (b : Block) (todo later before : List ℕ) → IsDesign d → d.options.rips ≤ 255 → IsUnderWay d old → IsRight d old.state b → net_of b ≡ n
    → AreTakenNext d (ripped_by b) later before → todo ≡ later ++ n ∷ [] → IsUnderWay d run → run.journal.blocks ≡ old.journal.blocks ++ b ∷ [] → run.state ≡ after old.state b → IsTurn d n run old todo before
turn-block d n run old b todo later before ok few began right of_net next pushed under_way blocks state =
    let whole : todo ≡ (before ++ next.later) ++ n ∷ [] = pushed ∙ ap (λ (ns : List ℕ). ns ++ n ∷ []) next.whole in
    let among : (m : ℕ) → Contains ((before ++ next.later) ++ n ∷ []) m → Contains todo m = λ m c. subst (λ (ns : List ℕ). Contains ns m) (sym whole) c in
    let back : (m : ℕ) → Contains next.later m → Contains (ripped_by b) m = λ m c. Contains-permutation next.later (ripped_by b) m (IsPermutation-sym (ripped_by b) next.later next.in_order.same) c in
    let forth : (m : ℕ) → Contains (ripped_by b) m → Contains todo m = λ m c.
    among m (Contains-append_left (before ++ next.later) (n ∷ []) m (Contains-append_right before next.later m (Contains-permutation (ripped_by b) next.later m next.in_order.same c))) in
    let itself : (m : ℕ) → m ≡ n → Contains todo m = λ m e. among m (Contains-append_right (before ++ next.later) (n ∷ []) m (0, omega arith, sym e)) in
    let at_place : IsRight d _ b = subst (λ (s : State). IsRight d s b) began.state right in
    record {
      under_way = under_way;
      added = b ∷ [];
      whole = blocks;
      of_net = All-cons (λ x. net_of x ≡ n) b [] of_net (All-nil (λ x. net_of x ≡ n));
      done = λ m h. ⊎_elim
          (λ (e : m ≡ n). inr (itself m e))
          (λ (other : m ≢ n). ⊎_elim
          (λ (e : m ≡ n). inr (itself m e))
          (λ (done : IsDone old.state m). ⊎_elim
          (λ (still : IsDone (after old.state b) m). inl (subst (λ (s : State). IsDone s m) (sym state) still))
          (λ (c : Contains (ripped_by b) m). inr (forth m c))
          (after-done old.state m b (λ e. other (e ∙ of_net)) done))
          h)
          (cases_eq m n);
      keeps = λ m c. among m (Contains-append_left (before ++ next.later) (n ∷ []) m (Contains-append_left before next.later m c));
      only = λ m c. ⊎_elim
          (λ (first : Contains (before ++ next.later) m). ⊎_elim
          (λ (old_one : Contains before m). inl old_one)
          (λ (ripped : Contains next.later m). inr (inr (ripped-has d old.journal.blocks b m at_place (back m ripped))))
          (Contains-append_cases before next.later m first))
          (λ (last : Contains (n ∷ []) m). inr (inl (⊎_elim (λ (e : m ≡ n). e) (λ (none : Contains [] m). absurd (none_in m none)) (in_cons n [] m last))))
          (Contains-append_cases (before ++ next.later) (n ∷ []) m (subst (λ (ns : List ℕ). Contains ns m) whole c));
      less =
          let effort : effort_left d (after old.state b) + length (ripped_by b) < effort_left d old.state = after-less d old.state b ok (under_way-kept d old ok began) few right in
          let now : effort_left d run.state ≡ effort_left d (after old.state b) = ap (effort_left d) state in
          let as_many : length next.later ≡ length (ripped_by b) = length_permutation (ripped_by b) next.later next.in_order.same in
          let count : length todo ≡ length before + length next.later + 1 = ap length whole ∙ length-append (before ++ next.later) (n ∷ []) ∙ ap (λ (k : ℕ). k + 1) (length-append before next.later) in
          omega arith;
    }

-- before the first turn
pub settling-first : (d : Design) (n : ℕ) (run : Progress) → IsUnderWay d run → IsSettling d n run run (n ∷ [])
settling-first d n run under_way = record {
  under_way = under_way;
  adds = record { added = []; whole = sym (append-nil run.journal.blocks); of_nets = All-nil (λ b. (net_of b ≡ n) ⊎ HasBlockOf run.journal.blocks (net_of b)) };
  done = λ m h. ⊎_elim (λ (e : m ≡ n). inr (0, omega arith, sym e)) (λ (done : IsDone run.state m). inl done) h;
  only = λ m c. inl (⊎_elim (λ (e : m ≡ n). e) (λ (none : Contains [] m). absurd (none_in m none)) (in_cons n [] m c));
}

-- the net that comes next is routable
pub settling-routable : (d : Design) (n next : ℕ) (run start : Progress) (todo before : List ℕ) → IsUnderWay d start → IsRoutable d n → IsSettling d n run start todo → todo ≡ before ++ next ∷ [] → IsRoutable d next
settling-routable d n next run start todo before began routable h is = ⊎_elim
    (λ (e : next ≡ n). subst (IsRoutable d) (sym e) routable)
    (λ (has : HasBlockOf start.journal.blocks next). has-routable d start.journal.blocks next began.history has)
    (h.only next (subst (λ (ns : List ℕ). Contains ns next) (sym is) (Contains-append_right before (next ∷ []) next (0, omega arith, refl))))

-- a turn more
pub settling-more : (d : Design) (n next : ℕ) (run old start : Progress) (todo before : List ℕ) → IsSettling d n old start (before ++ next ∷ []) → IsTurn d next run old todo before → IsSettling d n run start todo
settling-more d n next run old start todo before h turn =
    let begun : List Block = start.journal.blocks in
    let known : (m : ℕ) → Contains before m → (m ≡ n) ⊎ HasBlockOf begun m = λ m c. h.only m (Contains-append_left before (next ∷ []) m c) in
    let of_next : (next ≡ n) ⊎ HasBlockOf begun next = h.only next (Contains-append_right before (next ∷ []) next (0, omega arith, refl)) in
    let of_same : (m : ℕ) → m ≡ next → (m ≡ n) ⊎ HasBlockOf begun m = λ m e. subst (λ (k : ℕ). (k ≡ n) ⊎ HasBlockOf begun k) (sym e) of_next in
    record {
      under_way = turn.under_way;
      adds = record {
        added = h.adds.added ++ turn.added;
        whole = turn.whole ∙ ap (λ (bs : List Block). bs ++ turn.added) h.adds.whole ∙ append_assoc begun h.adds.added turn.added;
        of_nets = All-append (λ b. (net_of b ≡ n) ⊎ HasBlockOf begun (net_of b)) h.adds.added turn.added h.adds.of_nets
            (all_weaker (λ b. net_of b ≡ next) (λ b. (net_of b ≡ n) ⊎ HasBlockOf begun (net_of b)) turn.added (λ b e. of_same (net_of b) e) turn.of_net);
      };
      done = λ m first. ⊎_elim
          (λ (done : IsDone old.state m). turn.done m (inr done))
          (λ (c : Contains (before ++ next ∷ []) m). ⊎_elim
          (λ (among : Contains before m). inr (turn.keeps m among))
          (λ (last : Contains (next ∷ []) m). turn.done m (inl (⊎_elim (λ (e : m ≡ next). e) (λ (none : Contains [] m). absurd (none_in m none)) (in_cons next [] m last))))
          (Contains-append_cases before (next ∷ []) m c))
          (h.done m first);
      only = λ m c. ⊎_elim
          (λ (among : Contains before m). known m among)
          (λ (later : (m ≡ next) ⊎ HasBlockOf old.journal.blocks m). ⊎_elim
          (λ (e : m ≡ next). of_same m e)
          (λ (has : HasBlockOf old.journal.blocks m). ⊎_elim
          (λ (old_one : HasBlockOf begun m). inr old_one)
          (λ (new : HasBlockOf h.adds.added m). has-of (λ k. (k ≡ n) ⊎ HasBlockOf begun k) h.adds.added m h.adds.of_nets new)
          (has-cases begun h.adds.added m (subst (λ (bs : List Block). HasBlockOf bs m) h.adds.whole has)))
          later)
          (turn.only m c);
    }

-- the nets that a right block rips are the design's
pub ripped-nets_of : (d : Design) (s : State) (b : Block) → IsDesign d → IsStateOf d s → IsRight d s b → All (IsNetOf d) (ripped_by b)
ripped-nets_of d s b ok of_design right = of_block b (right-block_of d s b ok of_design right)
  where
    of_block : (x : Block) → IsBlockOf d x → All (IsNetOf d) (ripped_by x)
    of_block (Wire n w) h = All-nil (IsNetOf d)
    of_block (Stuck n) h = All-nil (IsNetOf d)
    of_block (RipFor n soft ripped w) h = h.nets

-- a turn that ended well
pub turned : (d : Design) (n : ℕ) (result : Result (Unit {0}) Memory) (run old : Progress) (b : Block) (todo later before : List ℕ) → IsDesign d → d.options.rips ≤ 255 → IsUnderWay d old → IsRight d old.state b → net_of b ≡ n
    → AreTakenNext d (ripped_by b) later before → todo ≡ later ++ n ∷ []
    → OnOk result (IsUnderWay d run) → OnOk result (run.journal.blocks ≡ old.journal.blocks ++ b ∷ []) → OnOk result (run.state ≡ after old.state b) → OnOk result (IsTurn d n run old todo before)
turned d n (Ok x) run old b todo later before ok few began right of_net next pushed under_way blocks state = turn-block d n run old b todo later before ok few began right of_net next pushed under_way blocks state
turned d n (Err e) run old b todo later before ok few began right of_net next pushed under_way blocks state = tt
