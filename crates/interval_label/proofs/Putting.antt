use Rattle.std.proofs.Common.{◌≡◌, inl, inr, ℕ, ◌+◌, ◌*◌, ◌^◌, ◌<◌, ◌≤◌, sym, refl, ap, ◌∙◌, subst, List, [], ◌∷◌, ◌++◌, length, Option, Some, None, MatchOption, slice_get, Contains, All, arith, ⊎_elim}
use Rattle.std.proofs.lemmas.Option.{slice_get_within, get_or_from_slice_get}
use Rattle.std.proofs.lemmas.List.Elements.{All-contains}
use Rattle.label_arena.specs.declared.place.Place.{Place}
use Rattle.label_arena.specs.declared.place.Label.{Label}
use Rattle.label_arena.specs.declared.place.LabelNo.{LabelNo}
use Rattle.label_arena.specs.Lists.{Graph}
use Rattle.label_arena.specs.Plain.{factor_at, slide, Reaches}
use Rattle.label_arena.specs.Traces.{IsFrom, IsSource}
use Rattle.interval_label.specs.Task.{Stop, AreNear}
use Rattle.interval_label.specs.Answers.{AreApart}
use Rattle.interval_label.specs.Known.{Rows}
use Rattle.interval_label.specs.Queue.{Queued, IsWithOneMore, IsWaiting, Gains, Loses}
use Rattle.interval_label.specs.Search.{IsExplained, ExplainedIn, AreSettled, IsCrossed, IsSlideTo, IsReached, IsImproved}
use Rattle.interval_label.specs.State.{IsCovered, IsLabel, IsState, IsSpread, IsTask, IsOffer, IsBestOf, IsRunning, Puts}
use Rattle.interval_label.specs.declared.search.Search.{Search}
use Rattle.interval_label.specs.declared.search.Best.{Best}
use Rattle.interval_label.proofs.Lists.{get_kept, get_last, last_cases, length_more}
use Rattle.interval_label.proofs.Gaps.{gap_same}
use Rattle.interval_label.proofs.Reaching.{reaches_slid}
use Rattle.interval_label.proofs.Crossing.{crossed_label, key_crossed, bound_slid}

pub contains_at : (ts : List Stop) (k : ℕ) (t : Stop) → slice_get ts k ≡ Some t → Contains ts t
contains_at ts k t h = (k, slice_get_within ts k t h, get_or_from_slice_get ts k t t h)

-- explained at the same place at no more
explained_through : (g : Graph) (ls : List Label) (u v : Place) (d c : ℕ) → u ≡ v → d ≤ c → IsExplained g ls u d → IsExplained g ls v c
explained_through g ls u v d c e l h =
    let h1 : IsExplained g ls v d = subst (λ (w : Place). IsExplained g ls w d) e h in
    record { number = h1.number; label = h1.label; is = h1.is; one_interval = h1.one_interval; cheap = omega (arith, h1.cheap, l) }

pub explained_kept : (g : Graph) (ls : List Label) (x : Label) (v : Place) (c : ℕ) → IsExplained g ls v c → IsExplained g (ls ++ x ∷ []) v c
explained_kept g ls x v c h = record { number = h.number; label = h.label; is = get_kept ls x h.label h.number h.is; one_interval = h.one_interval; cheap = h.cheap }

-- a label explains its own place
pub explained_self : (g : Graph) (ls : List Label) (k : ℕ) (x : Label) → slice_get ls k ≡ Some x → IsExplained g ls x.place x.dist
explained_self g ls k x h =
    let zero_slide : slide g x.place x.place.coord ≡ factor_at g x.place.interval.0 * 0 = ap (λ n. factor_at g x.place.interval.0 * n) (gap_same x.place.coord) in
    record { number = k; label = x; is = h; one_interval = refl; cheap = omega (arith, zero_slide) }

-- what is covered stays so without candidates that labels explain
covered_lost : (g : Graph) (ls : List Label) (q r : Queued) → Loses (ExplainedIn g ls) q r → (v : Place) (c : ℕ) → IsCovered g ls q v c → IsCovered g ls r v c
covered_lost g ls q r m v c h = ⊎_elim
    (λ (e : IsExplained g ls v c). inl e)
    (λ (w : IsWaiting q v c). ⊎_elim
    (λ (k : Contains r (w.key, w.candidate)). inr (record { key = w.key; candidate = w.candidate; queued = k; place = w.place; cheap = w.cheap }))
    (λ (e : IsExplained g ls w.candidate.place w.candidate.dist). inl (explained_through g ls w.candidate.place v w.candidate.dist c w.place w.cheap e))
    (m.kept w.key w.candidate w.queued))
    h

spread_kept : (g : Graph) (known : Option Rows) (ls ms : List Label) (q r : Queued) (x : Label) → ((v : Place) (c : ℕ) → IsCovered g ls q v c → IsCovered g ms r v c) → IsSpread g known ls q x → IsSpread g known ms r x
spread_kept g known ls ms q r x keeps h = record {
  points = λ k u v c y e. keeps v _ (h.points k u v c y e);
  runs = λ k u v c y m e. keeps v _ (h.runs k u v c y m e);
}

-- the search without candidates that labels explain
pub running_lost : (g : Graph) (sources targets : List Stop) (b : Place → ℕ) (known : Option Rows) (ls : List Label) (q r : Queued) (best : Option Best) → IsRunning g sources targets b known ls q best → Loses (ExplainedIn g ls) q r → IsRunning g sources targets b known ls r best
running_lost g sources targets b known ls q r best run m = record {
  sound = record {
    state = record {
      labels = run.sound.state.labels;
      least = run.sound.state.least;
      waits = λ d x h. run.sound.state.waits d x (m.only (d, x) h);
      keys = λ d x h. run.sound.state.keys d x (m.only (d, x) h);
    };
    sources_in = λ s h. covered_lost g ls q r m s.0 s.1 (run.sound.sources_in s h);
    spread = λ i y h. spread_kept g known ls ls q r y (covered_lost g ls q r m) (run.sound.spread i y h);
  };
  offers = run.offers;
  ordered = λ i y h. (λ d z c. (run.ordered i y h).0 d z (m.only (d, z) c), (run.ordered i y h).1);
  apart = run.apart;
}

from_kept : (g : Graph) (ls : List Label) (x y : Label) (n m : ℕ) → n ≤ m → (o : LabelNo) → IsFrom g ls n y o → IsFrom g (ls ++ x ∷ []) m y o
from_kept g ls x y n m le o h = record { earlier = omega (arith, h.earlier); label = h.label; at = get_kept ls x h.label o.0 h.at; cost = h.cost; leads = h.leads; dist = h.dist }

traced_kept : (g : Graph) (ls : List Label) (x y : Label) (n m : ℕ) → n ≤ m → (o : Option LabelNo) → MatchOption o (IsSource y.by) (IsFrom g ls n y) → MatchOption o (IsSource y.by) (IsFrom g (ls ++ x ∷ []) m y)
traced_kept g ls x y n m le None h = h
traced_kept g ls x y n m le (Some o) h = from_kept g ls x y n m le o h

label_kept : (g : Graph) (sources targets : List Stop) (ls : List Label) (x y : Label) (n m : ℕ) → n ≤ m → IsLabel g sources targets ls n y → IsLabel g sources targets (ls ++ x ∷ []) m y
label_kept g sources targets ls x y n m le h = record { inside = h.inside; mark = h.mark; traced = traced_kept g ls x y n m le y.origin h.traced; source = h.source; reached = h.reached }

-- each of the labels, and a new one
pub labels_put : (g : Graph) (sources targets : List Stop) (ls : List Label) (x : Label) → ((k : ℕ) (y : Label) → slice_get ls k ≡ Some y → IsLabel g sources targets ls k y) → IsLabel g sources targets ls (length ls) x → (k : ℕ) (y : Label) → slice_get (ls ++ x ∷ []) k ≡ Some y → IsLabel g sources targets (ls ++ x ∷ []) k y
labels_put g sources targets ls x labels l k y h = ⊎_elim
    (λ (o : slice_get ls k ≡ Some y). label_kept g sources targets ls x y k k (omega arith) (labels k y o))
    (λ (o : (k ≡ length ls) × (x ≡ y)).
    subst (λ (n : ℕ). IsLabel g sources targets (ls ++ x ∷ []) n y) (sym o.0)
    (subst (λ (z : Label). IsLabel g sources targets (ls ++ x ∷ []) (length ls) z) o.1 (label_kept g sources targets ls x x (length ls) (length ls) (omega arith) l)))
    (last_cases ls x y k h)

pub least_put : (g : Graph) (sources : List Stop) (ls : List Label) (x : Label) → ((k : ℕ) (y : Label) → slice_get ls k ≡ Some y → (c : ℕ) → Reaches g sources y.place c → y.dist ≤ c) → ((c : ℕ) → Reaches g sources x.place c → x.dist ≤ c) → (k : ℕ) (y : Label) → slice_get (ls ++ x ∷ []) k ≡ Some y → (c : ℕ) → Reaches g sources y.place c → y.dist ≤ c
least_put g sources ls x least new k y h = ⊎_elim
    (λ (o : slice_get ls k ≡ Some y). least k y o)
    (λ (o : (k ≡ length ls) × (x ≡ y)). subst (λ (z : Label). (c : ℕ) → Reaches g sources z.place c → z.dist ≤ c) o.1 new)
    (last_cases ls x y k h)

-- a label at a place where none stands stands apart
pub apart_more : (ls : List Label) (x : Label) → ((k : ℕ) (w : Label) → slice_get ls k ≡ Some w → w.place ≡ x.place → ⊥) → AreApart ls → AreApart (ls ++ x ∷ [])
apart_more ls x clash apart i j y z yi zj e = ⊎_elim
    (λ (o : slice_get ls i ≡ Some y). ⊎_elim
    (λ (p : slice_get ls j ≡ Some z). apart i j y z o p e)
    (λ (p : (j ≡ length ls) × (x ≡ z)). absurd (clash i y o (e ∙ ap (λ (w : Label). w.place) (sym p.1))))
    (last_cases ls x z j zj))
    (λ (o : (i ≡ length ls) × (x ≡ y)). ⊎_elim
    (λ (p : slice_get ls j ≡ Some z). absurd (clash j z p (sym e ∙ ap (λ (w : Label). w.place) (sym o.1))))
    (λ (p : (j ≡ length ls) × (x ≡ z)). o.0 ∙ sym p.0)
    (last_cases ls x z j zj))
    (last_cases ls x y i yi)

-- where no label explains a label's distance, none stands at its place
none_there : (g : Graph) (sources targets : List Stop) (b : Place → ℕ) (ls : List Label) (q : Queued) (x : Label) → IsState g sources targets b ls q → Reaches g sources x.place x.dist → (IsExplained g ls x.place x.dist → ⊥) → (k : ℕ) (w : Label) → slice_get ls k ≡ Some w → w.place ≡ x.place → ⊥
none_there g sources targets b ls q x st way new k w h e =
    let low : w.dist ≤ x.dist = st.least k w h x.dist (subst (λ (u : Place). Reaches g sources u x.dist) (sym e) way) in
    new (explained_through g ls w.place x.place w.dist x.dist e low (explained_self g ls k w h))

-- the best with the new label's offers
best_put : (g : Graph) (targets : List Stop) (ls : List Label) (x : Label) (a b : Option Best) → IsBestOf (IsOffer g targets ls) a → IsImproved g targets x (length ls) (λ j. j < length targets) a b → IsBestOf (IsOffer g targets (ls ++ x ∷ [])) b
best_put g targets ls x a b h p = record {
  from = λ r e. ⊎_elim
      (λ (o : a ≡ Some r). let f : IsOffer g targets ls r.number r.target r.cost = h.from r o in (f.0, get_kept ls x f.0 r.number f.1, f.2))
      (λ (o : (r.number ≡ length ls) × IsSlideTo g targets x r.target r.cost). (x, ap (slice_get (ls ++ x ∷ [])) o.0 ∙ get_last ls x, o.1))
      (p.from r e);
  least = λ n k c f. ⊎_elim
      (λ (o : slice_get ls n ≡ Some f.0).
      let r : IsReached a c = h.least n k c (f.0, o, f.2) in
      let s : IsReached b r.0.cost = p.keeps r.0 r.1 in
      (s.0, s.1, omega (arith, r.2, s.2)))
      (λ (o : (n ≡ length ls) × (x ≡ f.0)).
      let y : IsSlideTo g targets x k c = subst (λ (z : Label). IsSlideTo g targets z k c) (sym o.1) f.2 in
      p.covers k c (slice_get_within targets k y.target y.at) y)
      (last_cases ls x f.0 n f.1);
}

-- labels with their least distances are settled
pub settled_state : (g : Graph) (sources targets : List Stop) (b : Place → ℕ) (ls : List Label) (q : Queued) → AreNear g sources → IsState g sources targets b ls q → AreSettled g ls
settled_state g sources targets b ls q near st = record {
  inside = λ k x h. (st.labels k x h).inside;
  small = λ k x h. let d : (d : ℕ) × Reaches g sources x.place d × (d < 2 ^ 62) = near x.place x.dist (st.labels k x h).reached in omega (arith, st.least k x h d.0 d.1, d.2);
  smooth = λ j k x y h i e. st.least k y i (x.dist + slide g x.place y.place.coord) (reaches_slid g sources x.place y.place x.dist (st.labels j x h).inside (st.labels k y i).inside e (st.labels j x h).reached);
}

module _ (g : Graph) (sources targets : List Stop) (b : Place → ℕ) (known : Option Rows) (stops : List (List ℕ)) (task : IsTask g sources targets b known stops) (ls : List Label) (q r : Queued) (best : Option Best) (run : IsRunning g sources targets b known ls q best) (d : ℕ) (x : Label) (m : IsWithOneMore (d, x) r q) (least : All (λ (f : ℕ × Label). d ≤ f.0) q) (under_best : (s : Best) → best ≡ Some s → d ≤ s.cost) (fresh : IsExplained g ls x.place x.dist → ⊥) (least_dist : (c : ℕ) → Reaches g sources x.place c → x.dist ≤ c) (old new : Search) (is_q : old.queue.pairs ≡ r) (is_b : old.best ≡ best) (p : Puts g targets b known (length ls) old new x) where
  own : IsLabel g sources targets ls (length ls) x
  own = run.sound.state.waits d x m.has

  key : d ≡ x.dist + b x.place
  key = run.sound.state.keys d x m.has

  gains : Gains (IsCrossed g b known (record { 0 = length ls }) x) r new.queue.pairs
  gains = subst (λ (z : Queued). Gains (IsCrossed g b known (record { 0 = length ls }) x) z new.queue.pairs) is_q p.gains

  improves : IsImproved g targets x (length ls) (λ j. j < length targets) best new.best
  improves = subst (λ (z : Option Best). IsImproved g targets x (length ls) (λ j. j < length targets) z new.best) is_b p.improves

  covered : (v : Place) (c : ℕ) → IsCovered g ls q v c → IsCovered g (ls ++ x ∷ []) new.queue.pairs v c
  covered v c h = ⊎_elim
      (λ (e : IsExplained g ls v c). inl (explained_kept g ls x v c e))
      (λ (w : IsWaiting q v c). ⊎_elim
      (λ (e : (w.key, w.candidate) ≡ (d, x)).
      let same : w.candidate ≡ x = ap (λ (f : ℕ × Label). f.1) e in
      let place : x.place ≡ v = ap (λ (z : Label). z.place) (sym same) ∙ w.place in
      let low : x.dist ≤ c = omega (arith, w.cheap, ap (λ (z : Label). z.dist) same) in
      inl (explained_through g (ls ++ x ∷ []) x.place v x.dist c place low (explained_self g (ls ++ x ∷ []) (length ls) x (get_last ls x))))
      (λ (o : Contains r (w.key, w.candidate)). inr (record { key = w.key; candidate = w.candidate; queued = gains.keeps (w.key, w.candidate) o; place = w.place; cheap = w.cheap }))
      (m.only (w.key, w.candidate) w.queued))
      h

  spread_new : IsSpread g known (ls ++ x ∷ []) new.queue.pairs x
  spread_new = record { points = λ k u v c y e. inr (p.spreads.points k u v c y e); runs = λ k u v c y i e. inr (p.spreads.runs k u v c y i e) }

  state : IsState g sources targets b (ls ++ x ∷ []) new.queue.pairs
  state = record {
    labels = labels_put g sources targets ls x run.sound.state.labels own;
    least = least_put g sources ls x run.sound.state.least least_dist;
    waits = λ e y h. ⊎_elim
        (λ (o : Contains r (e, y)). label_kept g sources targets ls x y (length ls) (length (ls ++ x ∷ [])) (omega (arith, length_more ls x)) (run.sound.state.waits e y (m.keeps (e, y) o)))
        (λ (c : IsCrossed g b known (record { 0 = length ls }) x e y). crossed_label g sources targets b known ls x e y task.knows own c)
        (gains.only e y h);
    keys = λ e y h. ⊎_elim
        (λ (o : Contains r (e, y)). run.sound.state.keys e y (m.keeps (e, y) o))
        (λ (c : IsCrossed g b known (record { 0 = length ls }) x e y). c.key)
        (gains.only e y h);
  }

  ordered_keys : (i : ℕ) (y : Label) → slice_get (ls ++ x ∷ []) i ≡ Some y → y.dist + b y.place ≤ d
  ordered_keys i y h = ⊎_elim
      (λ (o : slice_get ls i ≡ Some y). (run.ordered i y o).0 d x m.has)
      (λ (o : (i ≡ length ls) × (x ≡ y)). omega (arith, key, ap (λ (z : Label). z.dist + b z.place) o.1))
      (last_cases ls x y i h)

  above : (e : ℕ) (z : Label) → Contains new.queue.pairs (e, z) → d ≤ e
  above e z h = ⊎_elim
      (λ (o : Contains r (e, z)). All-contains (λ (f : ℕ × Label). d ≤ f.0) q (e, z) least (m.keeps (e, z) o))
      (λ (c : IsCrossed g b known (record { 0 = length ls }) x e z).
      let low : x.dist + b x.place ≤ z.dist + b z.place = key_crossed g b z.by task.field.bounded.consistent x c.near z.place c.cost z.dist own.inside c.near_in c.one_interval c.way c.dist in
      omega (arith, key, low, c.key))
      (gains.only e z h)

  above_best : (s : Best) → new.best ≡ Some s → d ≤ s.cost
  above_best s es = ⊎_elim
      (λ (o : best ≡ Some s). under_best s o)
      (λ (o : (s.number ≡ length ls) × IsSlideTo g targets x s.target s.cost).
      let has : Contains targets o.1.target = contains_at targets s.target o.1.target o.1.at in
      let slope : b x.place ≤ slide g x.place o.1.target.0.coord + b o.1.target.0 = bound_slid g b task.field.bounded.consistent x.place o.1.target.0 own.inside (task.targets_are o.1.target has).0 o.1.one_interval in
      omega (arith, key, slope, o.1.cost, task.ends o.1.target has))
      (improves.from s es)

  -- x became a label
  pub running_put : IsRunning g sources targets b known (ls ++ x ∷ []) new.queue.pairs new.best
  running_put = record {
    sound = record {
      state = state;
      sources_in = λ s h. covered _ _ (run.sound.sources_in s h);
      spread = λ i y h. ⊎_elim
          (λ (o : slice_get ls i ≡ Some y). spread_kept g known ls (ls ++ x ∷ []) q new.queue.pairs y covered (run.sound.spread i y o))
          (λ (o : (i ≡ length ls) × (x ≡ y)). subst (λ (z : Label). IsSpread g known (ls ++ x ∷ []) new.queue.pairs z) o.1 spread_new)
          (last_cases ls x y i h);
    };
    offers = best_put g targets ls x best new.best run.offers improves;
    ordered = λ i y h. (λ e z c. omega (arith, ordered_keys i y h, above e z c), λ s es. omega (arith, ordered_keys i y h, above_best s es));
    apart = apart_more ls x (none_there g sources targets b ls q x run.sound.state own.reached fresh) run.apart;
  }
