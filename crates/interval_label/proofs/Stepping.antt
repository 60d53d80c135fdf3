use Rattle.std.proofs.Common.{◌≡◌, ℕ, zero, suc, ◌+◌, ◌-◌, ◌^◌, ◌<◌, ◌≤◌, sym, refl, ap, ◌∙◌, subst, List, [], ◌∷◌, ◌++◌, length, map, Option, Some, None, slice_get, arith}
use Rattle.std.proofs.lemmas.Option.{same_Some, slice_get_within}
use Rattle.label_arena.specs.declared.place.Place.{Place}
use Rattle.label_arena.specs.declared.place.Label.{Label}
use Rattle.label_arena.specs.declared.place.LabelNo.{LabelNo}
use Rattle.label_arena.specs.Lists.{Graph}
use Rattle.label_arena.specs.Plain.{IsInside, IsJoined, Reaches}
use Rattle.bucket_queue.specs.Bag.{Bag}
use Rattle.future_cost.specs.declared.bound.Bound.{Bound}
use Rattle.interval_label.specs.Task.{Stop, left_at, IsPriced, IsBounded, AreStops, EndsAt, AreNear}
use Rattle.interval_label.specs.Answers.{AreApart}
use Rattle.interval_label.specs.Known.{Rows, KnowsMarks, HoldStops, IsWide}
use Rattle.interval_label.specs.Queue.{Queued, AreInside, Gains}
use Rattle.interval_label.specs.Search.{IsField, AreSettled, CanSpread, Takes, Ends, IsCrossed, Grows, Spreads, IsImproved}
use Rattle.interval_label.specs.State.{IsTask, IsLabel, IsRunning, IsFinished, Puts, most_places}
use Rattle.interval_label.specs.declared.search.Search.{Search}
use Rattle.interval_label.specs.declared.search.Best.{Best}
use Rattle.interval_label.proofs.Lists.{length_more}
use Rattle.interval_label.proofs.Frontier.{least_taken}
use Rattle.interval_label.proofs.Putting.{running_lost, running_put, settled_state}
use Rattle.interval_label.proofs.Counting.{AreOnce, few_places}

get_map : (ls : List Label) (k : ℕ) (p : Place) → slice_get (map (λ (x : Label). x.place) ls) k ≡ Some p → (x : Label) × (slice_get ls k ≡ Some x) × (x.place ≡ p)
get_map [] k p h = let l : k < 0 = slice_get_within [] k p h in absurd (omega (arith, l))
get_map (x ∷ ls) zero p h = (x, refl, same_Some x.place p h)
get_map (x ∷ ls) (suc k) p h = get_map ls k p h

length_places : (ls : List Label) → length (map (λ (x : Label). x.place) ls) ≡ length ls
length_places [] = refl
length_places (x ∷ ls) = omega (arith, length_places ls)

-- there are no more labels than places
few_labels : (g : Graph) (ls : List Label) → ((k : ℕ) (x : Label) → slice_get ls k ≡ Some x → IsInside g x.place) → AreApart ls → length ls ≤ most_places g
few_labels g ls inside apart =
    let once : AreOnce g (map (λ (x : Label). x.place) ls) = record {
      inside = λ k p h. (let x = get_map ls k p h in subst (λ (u : Place). IsInside g u) x.2 (inside k x.0 x.1));
      apart = λ i j p q hi hj e. (let x = get_map ls i p hi in let y = get_map ls j q hj in apart i j x.0 y.0 x.1 y.1 (x.2 ∙ e ∙ sym y.2));
    } in
    omega (arith, few_places g (map (λ (x : Label). x.place) ls) once, length_places ls)

pub less_left : (m n k : ℕ) → k ≡ n + 1 → k ≤ m → m - k < m - n
less_left m n k e h = omega (arith, e, h)

module _ (g : Graph) (sources targets : List Stop) (b : Place → ℕ) (known : Option Rows) (stops : List (List ℕ)) (task : IsTask g sources targets b known stops) (ls : List Label) (old : Search) (run : IsRunning g sources targets b known ls old.queue.pairs old.best) where
  pub settled : AreSettled g ls
  settled = settled_state g sources targets b ls old.queue.pairs task.near run.sound.state

  pub waiting_inside : AreInside g old.queue.pairs
  waiting_inside d y h = (run.sound.state.waits d y h).inside

  -- nothing is left
  pub finished : (new : Search) → Ends g ls old new → IsFinished g sources targets b known ls new.best
  finished new e = record {
    queue = e.queue;
    running = subst (λ (r : Option Best). IsRunning g sources targets b known ls e.queue r) (sym e.best) (running_lost g sources targets b known ls old.queue.pairs e.queue old.best run e.loses);
    beyond = λ d y h. (let r = e.beyond d y h in (r.0, e.best ∙ r.1, r.2));
  }

  -- a candidate is taken out
  module _ (new : Search) (y : Label) (t : Takes g ls old new y) where
    taken : IsRunning g sources targets b known ls t.queue old.best
    taken = running_lost g sources targets b known ls old.queue.pairs t.queue old.best run t.loses

    own : IsLabel g sources targets ls (length ls) y
    own = taken.sound.state.waits t.key y t.taken.has

    least_dist : (c : ℕ) → Reaches g sources y.place c → y.dist ≤ c
    least_dist = least_taken g sources targets b known ls t.queue taken.sound task.field.joined task.field.bounded.consistent task.knows t.key y t.taken.has t.least t.fresh

    pub can_spread : CanSpread g b new y
    can_spread = record {
      label_in = own.inside;
      small = (let d : (d : ℕ) × Reaches g sources y.place d × (d < 2 ^ 62) = task.near y.place y.dist own.reached in omega (arith, least_dist d.0 d.1, d.2));
      floor = omega (arith, t.floor, taken.sound.state.keys t.key y t.taken.has);
    }

    module _ (end : Search) (p : Puts g targets b known (length ls) new end y) where
      pub run_put : IsRunning g sources targets b known (ls ++ y ∷ []) end.queue.pairs end.best
      run_put = running_put g sources targets b known stops task ls t.queue new.queue.pairs old.best taken t.key y t.taken t.least t.below t.fresh least_dist new end refl t.best p

      pub fewer_left : (ms : List Label) → ms ≡ ls ++ y ∷ [] → most_places g - length ms < most_places g - length ls
      fewer_left ms e =
          let few : length (ls ++ y ∷ []) ≤ most_places g = few_labels g (ls ++ y ∷ []) (λ k x h. (run_put.sound.state.labels k x h).inside) run_put.apart in
          less_left (most_places g) (length ls) (length ms) (ap (length {A = Label}) e ∙ length_more ls y) (omega (arith, few, ap (length {A = Label}) e))

-- the graph is the same after a label is put
pub puts_from : (g h : Graph) (targets : List Stop) (hull : Bound) (known : Option Rows) (n : ℕ) (number : LabelNo) (old mid new : Search) (x : Label) → h ≡ g → number.0 ≡ n → mid.queue ≡ old.queue → IsImproved h targets x number.0 (λ j. j < length targets) old.best mid.best → Grows h (left_at h hull) known number x mid new → Spreads h known new.queue.pairs x → Puts g targets (left_at g hull) known n old new x
puts_from g h targets hull known n number old mid new x e ne q imp gr sp =
    let i : IsImproved g targets x number.0 (λ j. j < length targets) old.best mid.best = subst (λ (k : Graph). IsImproved k targets x number.0 (λ j. j < length targets) old.best mid.best) e imp in
    let j : IsImproved g targets x n (λ j. j < length targets) old.best mid.best = subst (λ (m : ℕ). IsImproved g targets x m (λ j. j < length targets) old.best mid.best) ne i in
    let gg : Grows g (left_at g hull) known number x mid new = subst (λ (k : Graph). Grows k (left_at k hull) known number x mid new) e gr in
    let gn : Gains (IsCrossed g (left_at g hull) known (record { 0 = n }) x) mid.queue.pairs new.queue.pairs = subst (λ (m : ℕ). Gains (IsCrossed g (left_at g hull) known (record { 0 = m }) x) mid.queue.pairs new.queue.pairs) ne gg.queue in
    record {
      improves = subst (λ (r : Option Best). IsImproved g targets x n (λ j. j < length targets) old.best r) (sym gg.best) j;
      gains = subst (λ (p : Queued). Gains (IsCrossed g (left_at g hull) known (record { 0 = n }) x) p new.queue.pairs) (ap (λ (b : Bag Label). b.pairs) q) gn;
      spreads = subst (λ (k : Graph). Spreads k known new.queue.pairs x) e sp;
    }

pub field_at : (g h : Graph) (hull : Bound) → h ≡ g → IsField g (left_at g hull) → IsField h (left_at h hull)
field_at g h hull e f = subst (λ (k : Graph). IsField k (left_at k hull)) (sym e) f

pub spread_at : (g h : Graph) (hull : Bound) (old new : Search) (x : Label) → h ≡ g → new.queue ≡ old.queue → CanSpread g (left_at g hull) old x → CanSpread h (left_at h hull) new x
spread_at g h hull old new x e q can =
    let c : CanSpread g (left_at g hull) new x = record { label_in = can.label_in; small = can.small; floor = omega (arith, can.floor, ap (λ (b : Bag Label). b.floor) q) } in
    subst (λ (k : Graph). CanSpread k (left_at k hull) new x) (sym e) c

pub is_wide : (g : Graph) (sources targets : List Stop) (known : Option Rows) → KnowsMarks g sources targets known → IsWide g known
is_wide g sources targets None k rows e = absurd (clash rows e)
  where
    clash : (rows : Rows) → None ≡ Some rows → ⊥
    clash rows e = cc
is_wide g sources targets (Some held) k rows e = subst (λ (r : Rows). length r ≡ length g.intervals) (same_Some held rows e) k.wide

-- what is asked of a search, with what is known of its graph
pub task_from : (g h : Graph) (sources targets : List Stop) (hull : Bound) (known : Option Rows) (stops : List (List ℕ)) → h ≡ g → IsJoined h → IsPriced g → IsBounded g (left_at g hull) → AreStops g sources → AreStops g targets → EndsAt (left_at g hull) targets → AreNear g sources → KnowsMarks h sources targets known → HoldStops h targets stops → IsTask h sources targets (left_at h hull) known stops
task_from g h sources targets hull known stops e joined priced bounded ss ts ends near knows held = record {
  field = record { joined = joined; priced = subst (λ (k : Graph). IsPriced k) (sym e) priced; bounded = subst (λ (k : Graph). IsBounded k (left_at k hull)) (sym e) bounded };
  sources_are = subst (λ (k : Graph). AreStops k sources) (sym e) ss;
  targets_are = subst (λ (k : Graph). AreStops k targets) (sym e) ts;
  ends = subst (λ (k : Graph). EndsAt (left_at k hull) targets) (sym e) ends;
  near = subst (λ (k : Graph). AreNear k sources) (sym e) near;
  knows = knows;
  stops_are = held;
}
