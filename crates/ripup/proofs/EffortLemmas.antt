-- Each right block leaves less to do, also where the nets that it rips are to be taken again.
use Rattle.std.proofs.Common.{◌≡◌, ◌∙◌, ℕ, zero, suc, ◌+◌, ◌-◌, ◌*◌, ◌<◌, ◌≤◌, List, [], ◌∷◌, ◌++◌, Bool, true, false, cond, ◌&&◌, ◌==◌, not, nat_lt, Option, None, Some, refl, sym, ap, subst, length, get_or, slice_get, slice_set, arith, sum_by, All, AllPairs, Contains}
use Rattle.std.specs.List.{list_all}
use Rattle.std.proofs.lemmas.Bool.Decides.{nat_tests}
use Rattle.std.proofs.lemmas.List.{length-set, length-map}
use Rattle.std.proofs.lemmas.List.Elements.{Contains-get_or}
use Rattle.std.proofs.lemmas.List.Sums.{sum_by-cons, sum_by-set}
use Rattle.std.proofs.lemmas.Option.{unwrap_or-slice_get}
use Rattle.rt_base.specs.declared.walk.Walk.{Walk}
use Rattle.track_graph.specs.declared.design.Design.{Design}
use Rattle.track_graph.specs.declared.history.Block.{Block}
use Rattle.track_graph.specs.declared.history.Block.TheVariants.{Wire, Stuck, RipFor}
use Rattle.track_graph.specs.declared.history.NetState.{NetState}
use Rattle.track_graph.specs.declared.history.State.{State}
use Rattle.track_graph.specs.Conditions.{IsStateOf}
use Rattle.track_graph.specs.Designs.{IsDesign}
use Rattle.track_graph.specs.Histories.{all_joined, crossed_from, IsRight, IsRoutable}
use Rattle.track_graph.specs.Searches.{IsFinish}
use Rattle.track_graph.specs.States.{after, emptied, emptied_net, join_pin, keep_first, net_state, set_at, with_net, with_walk}
use Rattle.track_graph.proofs.StateLemmas.{blank, emptied-others, length-emptied, net_state-other}
use Rattle.track_graph.proofs.WalkLemmas.{entry-named, routable_within}
use Rattle.crossed_nets.specs.Ripped.{IsRippable}
use Rattle.crossed_nets.proofs.CrossedLemmas.{crossed-ascending, crossed-rippable}
use Rattle.ripup.specs.Progress.{effort_left, effort_of, missing, ripped_by, work_left}

-- one pin more is joined
missing-joined : (bs : List Bool) (k : ℕ) → slice_get bs k ≡ Some false → sum_by missing bs ≡ 1 + sum_by missing (slice_set bs k true)
missing-joined [] k at = cc
missing-joined (b ∷ bs) zero at =
    let same : b ≡ false = cc in
    let before : sum_by missing (b ∷ bs) ≡ missing b + sum_by missing bs = sum_by-cons missing b bs in
    let here : missing b ≡ 1 = ap missing same in
    omega (arith, sum_by-cons missing true bs)
missing-joined (b ∷ bs) (suc k) at =
    let later : sum_by missing bs ≡ 1 + sum_by missing (slice_set bs k true) = missing-joined bs k at in
    omega (arith, sum_by-cons missing b bs, sum_by-cons missing b (slice_set bs k true))

-- where not all pins are joined one is missing
some_missing : (bs : List Bool) → list_all (λ b. b) bs ≡ false → 0 < sum_by missing bs
some_missing [] h = cc
some_missing (true ∷ bs) h = omega (arith, sum_by-cons missing true bs, some_missing bs h)
some_missing (false ∷ bs) h = omega (arith, sum_by-cons missing false bs)

missing-few : (bs : List Bool) → sum_by missing bs ≤ length bs
missing-few [] = omega arith
missing-few (true ∷ bs) = omega (arith, sum_by-cons missing true bs, missing-few bs)
missing-few (false ∷ bs) = omega (arith, sum_by-cons missing false bs, missing-few bs)

length-keep_first : (bs : List Bool) → length (keep_first bs) ≡ length bs
length-keep_first [] = refl
length-keep_first (b ∷ bs) = ap (λ k. suc k) (length-map bs (λ _. false))

length-set_at : (o : Option ℕ) (bs : List Bool) → length (set_at o bs) ≡ length bs
length-set_at None bs = refl
length-set_at (Some pin) bs = length-set bs pin true

work_left-open : (net : NetState) → net.stuck ≡ false → work_left net ≡ sum_by missing net.joined
work_left-open net h = ap (λ (b : Bool). cond b 0 (sum_by missing net.joined)) h

-- the effort of a state after one net changed
effort-with_net : (d : Design) (s : State) (n : ℕ) (net : NetState) → n < length s.nets → effort_left d (with_net s n net) + effort_of d.options.rips (net_state s n) ≡ effort_left d s + effort_of d.options.rips net
effort-with_net d s n net within =
    ap (λ (x : NetState). effort_left d (with_net s n net) + effort_of d.options.rips x) (unwrap_or-slice_get s.nets n blank)
    ∙ sum_by-set (effort_of d.options.rips) s.nets n net blank within

abbrev longer : NetState → Walk → NetState
longer net w = record { walks = net.walks ++ w ∷ []; joined = join_pin w.finish.kind net.joined; rips = net.rips; stuck = net.stuck }

abbrev marked : NetState → NetState
marked net = record { walks = net.walks; joined = net.joined; rips = net.rips; stuck = true }

-- a wire more leaves less to do for its net
longer-less : (d : Design) (n rips : ℕ) (own : NetState) (w : Walk) → IsDesign d → own.stuck ≡ false → IsFinish d n own w.finish → effort_of rips (longer own w) < effort_of rips own
longer-less d n rips own w ok unmarked finish =
    let new : NetState = longer own w in
    let joined : new.joined ≡ slice_set own.joined finish.0 true = ap (λ (o : Option ℕ). set_at o own.joined) (entry-named d n finish.0 w.finish ok finish.2) in
    let fewer : sum_by missing own.joined ≡ 1 + sum_by missing new.joined = missing-joined own.joined finish.0 finish.1 ∙ ap (λ (bs : List Bool). 1 + sum_by missing bs) (sym joined) in
    let left : work_left new < work_left own = omega (arith, work_left-open new unmarked, work_left-open own unmarked) in
    let as_many : length new.joined ≡ length own.joined = ap length joined ∙ length-set own.joined finish.0 true in
    let same : (rips - new.rips) * (length new.joined + 2) ≡ (rips - own.rips) * (length own.joined + 2) = ap (λ (k : ℕ). (rips - own.rips) * (k + 2)) as_many in
    omega arith

-- so does a mark
marked-less : (rips : ℕ) (own : NetState) → own.stuck ≡ false → all_joined own ≡ false → effort_of rips (marked own) < effort_of rips own
marked-less rips own unmarked unjoined =
    let left : work_left (marked own) < work_left own = omega (arith, work_left-open own unmarked, some_missing own.joined unjoined) in
    omega arith

is_less : (a b : ℕ) → a < b → nat_lt a b ≡ true
is_less a b h = grind (arith, nat_tests)

less_from : (a b : ℕ) → nat_lt a b ≡ true → a < b
less_from a b h = grind (arith, nat_tests)

one_more : (k m : ℕ) → (k + 1) * m ≡ k * m + m
one_more k m = grind arith

-- a rip costs more than what it gives back
emptied_net-less : (rips : ℕ) (own : NetState) → own.rips < rips → rips ≤ 255 → effort_of rips (emptied_net own) + 2 ≤ effort_of rips own
emptied_net-less rips own less few =
    let new : NetState = emptied_net own in
    let pins : ℕ = length own.joined in
    let counted : new.rips ≡ own.rips + 1 = ap (λ (b : Bool). cond b (own.rips + 1) own.rips) (is_less own.rips 255 (omega arith)) in
    let as_many : length new.joined ≡ pins = length-keep_first own.joined in
    let k : ℕ = rips - (own.rips + 1) in
    let one_less : rips - own.rips ≡ k + 1 = omega arith in
    let before : (rips - own.rips) * (pins + 2) ≡ k * (pins + 2) + (pins + 2) = ap (λ (j : ℕ). j * (pins + 2)) one_less ∙ one_more k (pins + 2) in
    let now : (rips - new.rips) * (length new.joined + 2) ≡ k * (pins + 2) = ap (λ (j : ℕ). (rips - j) * (length new.joined + 2)) counted ∙ ap (λ (j : ℕ). k * (j + 2)) as_many in
    let back : sum_by missing new.joined ≤ length new.joined = missing-few new.joined in
    let same : work_left new ≡ sum_by missing new.joined = refl in
    omega arith

-- the state has the net, and it may lose another rip
abbrev CanLose : ℕ → State → ℕ → Type 0
CanLose rips s m = (m < length s.nets) × ((net_state s m).rips < rips)

emptied-less : (d : Design) (s : State) (ns : List ℕ) → d.options.rips ≤ 255 → All (CanLose d.options.rips s) ns → AllPairs (λ a b. a < b) ns → effort_left d (emptied s ns) + 2 * length ns ≤ effort_left d s
emptied-less d s [] few can ascending = omega arith
emptied-less d s (m ∷ ms) few can ascending =
    let rips : ℕ = d.options.rips in
    let t : State = with_net s m (emptied_net (net_state s m)) in
    let first : CanLose rips s m = can 0 m (omega arith) in
    let rest : All (CanLose rips t) ms = λ i x l.
    let y : ℕ = get_or ms i x in
    let h : CanLose rips s y = can (suc i) x (omega arith) in
    let lt : m < y = ascending 0 (suc i) x (omega arith) (omega arith) in
    let stays : net_state t y ≡ net_state s y = net_state-other s m y (emptied_net (net_state s m)) (λ e. omega arith) in
    (subst (λ (k : ℕ). y < k) (sym (length-set s.nets m (emptied_net (net_state s m)))) h.0, subst (λ (net : NetState). net.rips < rips) (sym stays) h.1) in
    let later : effort_left d (emptied t ms) + 2 * length ms ≤ effort_left d t = emptied-less d t ms few rest (λ i j x lt l. ascending (suc i) (suc j) x (omega arith) (omega arith)) in
    let here : effort_left d t + effort_of rips (net_state s m) ≡ effort_left d s + effort_of rips (emptied_net (net_state s m)) = effort-with_net d s m (emptied_net (net_state s m)) first.0 in
    let less : effort_of rips (emptied_net (net_state s m)) + 2 ≤ effort_of rips (net_state s m) = emptied_net-less rips (net_state s m) first.1 few in
    omega arith

and_second : (a b : Bool) → (a && b) ≡ true → b ≡ true
and_second true b h = h
and_second false b h = absurd cc

crossed-can_lose : (d : Design) (s : State) (n : ℕ) (soft : Walk) → All (CanLose d.options.rips s) (crossed_from d n soft 0 s.nets)
crossed-can_lose d s n soft i x l =
    let m : ℕ = get_or (crossed_from d n soft 0 s.nets) i x in
    let h : IsRippable d s n m = crossed-rippable d s n soft m (Contains-get_or (crossed_from d n soft 0 s.nets) i x l) in
    (h.within, less_from (net_state s m).rips d.options.rips (and_second (not (m == n)) (nat_lt (net_state s m).rips d.options.rips) h.may))

-- a wire of a net leaves less to do
with_walk-less : (d : Design) (s : State) (n : ℕ) (w : Walk) → IsDesign d → n < length s.nets → (net_state s n).stuck ≡ false → IsFinish d n (net_state s n) w.finish → effort_left d (with_walk s n w) < effort_left d s
with_walk-less d s n w ok within unmarked finish =
    let less : effort_of d.options.rips (longer (net_state s n) w) < effort_of d.options.rips (net_state s n) = longer-less d n d.options.rips (net_state s n) w ok unmarked finish in
    let here : effort_left d (with_walk s n w) + effort_of d.options.rips (net_state s n) ≡ effort_left d s + effort_of d.options.rips (longer (net_state s n) w) = effort-with_net d s n (longer (net_state s n) w) within in
    omega arith

routable-in : (d : Design) (s : State) (n : ℕ) → IsStateOf d s → IsRoutable d n → n < length s.nets
routable-in d s n of_design routable = subst (λ (k : ℕ). n < k) (sym of_design.nets) (routable_within d n routable)

-- a right block leaves less to do, even by as much as the nets that it rips
pub after-less : (d : Design) (s : State) (b : Block) → IsDesign d → IsStateOf d s → d.options.rips ≤ 255 → IsRight d s b → effort_left d (after s b) + length (ripped_by b) < effort_left d s
after-less d s (Wire n w) ok of_design few right =
    let less : effort_left d (with_walk s n w) < effort_left d s = with_walk-less d s n w ok (routable-in d s n of_design right.waiting.routable) right.waiting.not_stuck right.walk.legal.walk.finish in
    omega arith
after-less d s (Stuck n) ok of_design few right =
    let within : n < length s.nets = routable-in d s n of_design right.waiting.routable in
    let less : effort_of d.options.rips (marked (net_state s n)) < effort_of d.options.rips (net_state s n) = marked-less d.options.rips (net_state s n) right.waiting.not_stuck right.waiting.unjoined in
    let here : effort_left d (after s (Stuck n)) + effort_of d.options.rips (net_state s n) ≡ effort_left d s + effort_of d.options.rips (marked (net_state s n)) = effort-with_net d s n (marked (net_state s n)) within in
    omega arith
after-less d s (RipFor n soft ripped w) ok of_design few right =
    let crossed : List ℕ = crossed_from d n soft 0 s.nets in
    let t : State = emptied s ripped in
    let absent : Contains ripped n → ⊥ = λ c. (crossed-rippable d s n soft n (subst (λ (ns : List ℕ). Contains ns n) right.ripped_exactly c)).other refl in
    let stays : net_state t n ≡ net_state s n = emptied-others s ripped n absent in
    let within : n < length t.nets = subst (λ (k : ℕ). n < k) (sym (length-emptied s ripped)) (routable-in d s n of_design right.waiting.routable) in
    let fewer : effort_left d t + 2 * length ripped ≤ effort_left d s =
    emptied-less d s ripped few (subst (λ (ns : List ℕ). All (CanLose d.options.rips s) ns) (sym right.ripped_exactly) (crossed-can_lose d s n soft))
    (subst (λ (ns : List ℕ). AllPairs (λ a b. a < b) ns) (sym right.ripped_exactly) (crossed-ascending d n soft 0 s.nets)) in
    let less : effort_left d (with_walk t n w) < effort_left d t =
    with_walk-less d t n w ok within (ap (λ (net : NetState). net.stuck) stays ∙ right.waiting.not_stuck) (subst (λ (net : NetState). IsFinish d n net w.finish) (sym stays) right.walk.legal.walk.finish) in
    omega arith
