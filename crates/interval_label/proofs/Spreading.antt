use Rattle.std.proofs.Common.{◌≡◌, ◌⊎◌, inl, inr, ℕ, ◌+◌, ◌^◌, ◌<◌, ◌≤◌, ℤ, ◌≤ℤ◌, ◌<ℤ◌, sym, refl, ap, ◌∙◌, subst, List, Option, Some, None, slice_get, slice_index_or, Contains, length, arith, ⊎_elim}
use Rattle.std.proofs.lemmas.Int.{ints}
use Rattle.std.proofs.lemmas.Option.{same_Some, slice_get_read, slice_get_within, slice_get-get_or}
use Rattle.std.proofs.lemmas.Bool.{cases_lt}
use Rattle.label_arena.specs.declared.place.Place.{Place}
use Rattle.label_arena.specs.declared.place.IntervalNo.{IntervalNo}
use Rattle.label_arena.specs.declared.place.Bridge.{Bridge}
use Rattle.label_arena.specs.declared.place.Run.{Run}
use Rattle.label_arena.specs.declared.place.Label.{Label}
use Rattle.label_arena.specs.declared.place.LabelNo.{LabelNo}
use Rattle.label_arena.specs.declared.place.By.{By}
use Rattle.label_arena.specs.declared.place.By.TheVariants.{Source, Slide, Point, Run as OverRun}
use Rattle.label_arena.specs.Lists.{Graph}
use Rattle.label_arena.specs.Plain.{slide, factor_at, IsInside, IsPointWay, IsRunWay, IsJoined, IsRun}
use Rattle.label_arena.specs.Ways.{AreExactly, IsBridgeOf, IsRunOf}
use Rattle.interval_label.specs.Task.{IsPriced}
use Rattle.interval_label.specs.Known.{Rows, IsKnown, row_at}
use Rattle.interval_label.specs.Queue.{Queued, IsWaiting}
use Rattle.interval_label.specs.Search.{WayBy, CanCross, CanSpread, Grows, IsCrossed, CoversPoint, IsRunFrom, Climbs, ClimbsAt, CoversFrom, CoversRun, clamped}
use Rattle.interval_label.specs.declared.marking.Mark.{Mark}
use Rattle.interval_label.specs.declared.search.Search.{Search}
use Rattle.interval_label.proofs.Sliding.{at}
use Rattle.interval_label.proofs.Queues.{waiting_kept, gains_none, gains_more}
use Rattle.interval_label.proofs.Gaps.{clamped_low, clamped_high}

-- what ways cost
pub way_small : (g : Graph) (by : By) (u v : Place) (c : ℕ) → IsPriced g → WayBy g by u v c → c < 2 ^ 60
way_small g (Source k) u v c p h = absurd h
way_small g Slide u v c p h = absurd h
way_small g (Point k) u v c p h = omega (arith, p.bridges k h.bridge h.at, h.cost)
way_small g OverRun u v c p h = omega (arith, p.runs h.0 h.1.run h.1.at, h.1.cost)

pub grows_none : (g : Graph) (b : Place → ℕ) (known : Option Rows) (n : LabelNo) (x : Label) (s : Search) → Grows g b known n x s s
grows_none g b known n x s = record { best = refl; floor = refl; queue = gains_none (IsCrossed g b known n x) s.queue.pairs }

pub grows_more : (g : Graph) (b : Place → ℕ) (known : Option Rows) (n : LabelNo) (x : Label) (r s t : Search) → Grows g b known n x r s → Grows g b known n x s t → Grows g b known n x r t
grows_more g b known n x r s t a c = record { best = c.best ∙ a.best; floor = c.floor ∙ a.floor; queue = gains_more (IsCrossed g b known n x) r.queue.pairs s.queue.pairs t.queue.pairs a.queue c.queue }

-- a label can be spread on after some candidates were added
pub spread_more : (g : Graph) (b : Place → ℕ) (known : Option Rows) (n : LabelNo) (x : Label) (s t : Search) → CanSpread g b s x → Grows g b known n x s t → CanSpread g b t x
spread_more g b known n x s t h w = record { label_in = h.label_in; small = h.small; floor = omega (arith, h.floor, w.floor) }

-- both directions of a point bridge
module _ (g : Graph) (b : Place → ℕ) (known : Option Rows) (x : Label) (k : ℕ) (p : Bridge) (joined : IsJoined g) (has : slice_get g.bridges k ≡ Some p) where
  way : IsPointWay g k p.a p.b p.cost
  way = record { bridge = p; at = has; ends = inl (refl, refl); cost = refl }

  way_back : IsPointWay g k p.b p.a p.cost
  way_back = record { bridge = p; at = has; ends = inr (refl, refl); cost = refl }

  pub can_point : (s : Search) → CanSpread g b s x → CanCross g b known s x p.a p.b p.cost (Point k)
  can_point s h = record { label_in = h.label_in; small = h.small; floor = h.floor; near_in = (joined.bridges k p has).a; far_in = (joined.bridges k p has).b; way = way; mark = λ e. inl (k, p.a, p.cost, way_back) }

  pub can_point_back : (s : Search) → CanSpread g b s x → CanCross g b known s x p.b p.a p.cost (Point k)
  can_point_back s h = record { label_in = h.label_in; small = h.small; floor = h.floor; near_in = (joined.bridges k p has).b; far_in = (joined.bridges k p has).a; way = way_back; mark = λ e. inl (k, p.b, p.cost, way) }

  pub covers_point : (q : Queued) → (x.place.interval ≡ p.a.interval → IsWaiting q p.b (x.dist + slide g x.place p.a.coord + p.cost)) → (x.place.interval ≡ p.b.interval → IsWaiting q p.a (x.dist + slide g x.place p.b.coord + p.cost)) → CoversPoint g q x k
  covers_point q there back u v d y e =
      let same : y.bridge ≡ p = same_Some y.bridge p (sym y.at ∙ has) in
      let cost : d ≡ p.cost = y.cost ∙ ap (λ (z : Bridge). z.cost) same in
      ⊎_elim
      (λ (h : (u ≡ y.bridge.a) × (v ≡ y.bridge.b)).
      let ua : u ≡ p.a = h.0 ∙ ap (λ (z : Bridge). z.a) same in
      let vb : v ≡ p.b = h.1 ∙ ap (λ (z : Bridge). z.b) same in
      rw (ua, vb, cost) (there (e ∙ ap (λ (z : Place). z.interval) ua)))
      (λ (h : (u ≡ y.bridge.b) × (v ≡ y.bridge.a)).
      let ub : u ≡ p.b = h.0 ∙ ap (λ (z : Bridge). z.b) same in
      let va : v ≡ p.a = h.1 ∙ ap (λ (z : Bridge). z.a) same in
      rw (ub, va, cost) (back (e ∙ ap (λ (z : Place). z.interval) ub)))
      y.ends

-- a run from one of its intervals onto the other
module _ (g : Graph) (b : Place → ℕ) (known : Option Rows) (x : Label) (k : ℕ) (run : Run) (from to : IntervalNo) (joined : IsJoined g) (is : IsRunFrom g k run from to) where
  run_way : (z : ℤ) → run.span.lo ≤ℤ z → z ≤ℤ run.span.hi → IsRunWay g k (at from z) (at to z) run.cost
  run_way z l h = record { run = run; at = is.at; ends = is.ends; straight = refl; low = l; high = h; cost = refl }

  run_back : (z : ℤ) → run.span.lo ≤ℤ z → z ≤ℤ run.span.hi → IsRunWay g k (at to z) (at from z) run.cost
  run_back z l h = record { run = run; at = is.at; ends = ⊎_elim (λ d. inr (d.1, d.0)) (λ d. inl (d.1, d.0)) is.ends; straight = refl; low = l; high = h; cost = refl }

  run_in : (z : ℤ) → run.span.lo ≤ℤ z → z ≤ℤ run.span.hi → IsInside g (at from z) × IsInside g (at to z)
  run_in z l h =
      let i : IsInside g (at run.a z) × IsInside g (at run.b z) = (joined.runs k run is.at).holds z l h in
      ⊎_elim
      (λ (d : (from ≡ run.a) × (to ≡ run.b)). (subst (λ n. IsInside g (at n z)) (sym d.0) i.0, subst (λ n. IsInside g (at n z)) (sym d.1) i.1))
      (λ (d : (from ≡ run.b) × (to ≡ run.a)). (subst (λ n. IsInside g (at n z)) (sym d.0) i.1, subst (λ n. IsInside g (at n z)) (sym d.1) i.0))
      is.ends

  -- at the coordinate of the span next to the label
  pub can_clamped : (z : ℤ) → z ≡ clamped run.span.lo run.span.hi x.place.coord → run.span.lo ≤ℤ run.span.hi → (s : Search) → CanSpread g b s x → CanCross g b known s x (at from z) (at to z) run.cost OverRun
  unfolding run_back
  can_clamped z e order s h =
      let l : run.span.lo ≤ℤ z = rw e (clamped_low run.span.lo run.span.hi x.place.coord order) in
      let u : z ≤ℤ run.span.hi = rw e (clamped_high run.span.lo run.span.hi x.place.coord order) in
      record {
        label_in = h.label_in;
        small = h.small;
        floor = h.floor;
        near_in = (run_in z l u).0;
        far_in = (run_in z l u).1;
        way = (k, run_way z l u);
        mark = λ i. inr (elim (next_to run.span.lo run.span.hi x.place.coord z e) [
          | inl side ↦ inl (k, at from z, run.cost, run_back z l u, side)
          | inr own ↦ inr (inl (here i own, (run.cost, (k, run_way z l u))))
        ]);
      }
    where
      next_to : (l h x z : ℤ) → z ≡ clamped l h x → ((z ≡ l) ⊎ (z ≡ h)) ⊎ (z ≡ x)
      next_to l h x z e = grind (arith, ints)

      here : x.place.interval ≡ from → z ≡ x.place.coord → at from z ≡ x.place
      here i own = ap (λ (n : IntervalNo). at n z) (sym i) ∙ ap (λ (w : ℤ). at x.place.interval w) own

  place_is : (u : Place) (n : IntervalNo) (z : ℤ) → u.interval ≡ n → u.coord ≡ z → at n z ≡ u
  place_is u n z i e = ap (λ (m : IntervalNo). at m z) (sym i) ∙ ap (λ (w : ℤ). at u.interval w) (sym e)

  pub can_beside : (near far : Place) → near.interval ≡ from → far.interval ≡ to → near.coord ≡ clamped run.span.lo run.span.hi x.place.coord → far.coord ≡ clamped run.span.lo run.span.hi x.place.coord → run.span.lo ≤ℤ run.span.hi → (s : Search) → CanSpread g b s x → CanCross g b known s x near far run.cost OverRun
  can_beside near far nf ft nx fx order s h =
      let m : ℤ = clamped run.span.lo run.span.hi x.place.coord in
      subst (λ (u : Place). CanCross g b known s x near u run.cost OverRun) (place_is far to m ft fx)
      (subst (λ (u : Place). CanCross g b known s x u (at to m) run.cost OverRun) (place_is near from m nf nx) (can_clamped m refl order s h))

  -- at a known mark
  pub can_climb : (z : ℤ) → run.span.lo ≤ℤ z → z ≤ℤ run.span.hi → IsKnown known (at to z) → (s : Search) → CanSpread g b s x → CanCross g b known s x (at from z) (at to z) run.cost OverRun
  can_climb z l u m s h = record { label_in = h.label_in; small = h.small; floor = h.floor; near_in = (run_in z l u).0; far_in = (run_in z l u).1; way = (k, run_way z l u); mark = λ i. inr (inr (inr m)) }

  pub can_mark : (z : ℤ) (near far : Place) → near ≡ at from z → far ≡ at to z → (run.span.lo ≤ℤ near.coord) × (near.coord ≤ℤ run.span.hi) → IsKnown known (at to z) → (s : Search) → CanSpread g b s x → CanCross g b known s x near far run.cost OverRun
  can_mark z near far ne fe held m s h =
      let l : run.span.lo ≤ℤ z = subst (λ (p : Place). run.span.lo ≤ℤ p.coord) ne held.0 in
      let u : z ≤ℤ run.span.hi = subst (λ (p : Place). p.coord ≤ℤ run.span.hi) ne held.1 in
      subst (λ (p : Place). CanCross g b known s x near p run.cost OverRun) (sym fe)
      (subst (λ (p : Place). CanCross g b known s x p (at to z) run.cost OverRun) (sym ne) (can_climb z l u m s h))

  pub mark_covered : (z : ℤ) (near far : Place) → near ≡ at from z → far ≡ at to z → (q : Queued) → x.place.interval ≡ from → (x.place.interval ≡ near.interval → IsWaiting q far (x.dist + slide g x.place near.coord + run.cost)) → IsWaiting q (at to z) (x.dist + slide g x.place z + run.cost)
  mark_covered z near far ne fe q e h =
      subst (λ (p : Place). IsWaiting q p (x.dist + slide g x.place z + run.cost)) fe
      (subst (λ (p : Place). IsWaiting q far (x.dist + slide g x.place p.coord + run.cost)) ne (h (e ∙ sym (ap (λ (p : Place). p.interval) ne))))

  pub covers_from : (q : Queued) (m : ℤ) → m ≡ clamped run.span.lo run.span.hi x.place.coord → (x.place.interval ≡ from → IsWaiting q (at to m) (x.dist + slide g x.place m + run.cost)) → Climbs g known q x run from to → CoversFrom g known q x k from to
  covers_from q m em next climbs u v d y crossing uf vt e =
      let same : y.run ≡ run = same_Some y.run run (sym y.at ∙ is.at) in
      let cost : run.cost ≡ d = sym (y.cost ∙ ap (λ (z : Run). z.cost) same) in
      let xf : x.place.interval ≡ from = e ∙ uf in
      let there : at to u.coord ≡ v = ap (λ (n : IntervalNo). at n u.coord) (sym vt) ∙ ap (λ (z : ℤ). at v.interval z) y.straight in
      elim crossing [
        | inl um ↦
            let mu : m ≡ u.coord = em ∙ sym (um ∙ ap (λ (z : Run). clamped z.span.lo z.span.hi x.place.coord) same) in
            move q m u.coord v d mu there cost (next xf)
        | inr steep ↦
            let lo : run.span.lo ≤ℤ u.coord = subst (λ (z : Run). z.span.lo ≤ℤ u.coord) same y.low in
            let hi : u.coord ≤ℤ run.span.hi = subst (λ (z : Run). u.coord ≤ℤ z.span.hi) same y.high in
            let up : factor_at g from.0 < factor_at g to.0 = subst (λ (n : IntervalNo). factor_at g n.0 < factor_at g to.0) uf (subst (λ (n : IntervalNo). factor_at g u.interval.0 < factor_at g n.0) vt steep.0) in
            move q u.coord u.coord v d refl there cost (climbs up xf u.coord lo hi (subst (λ (p : Place). IsKnown known p) (sym there) steep.1))
      ]
    where
      move : (q : Queued) (z w : ℤ) (v : Place) (d : ℕ) → z ≡ w → at to w ≡ v → run.cost ≡ d → IsWaiting q (at to z) (x.dist + slide g x.place z + run.cost) → IsWaiting q v (x.dist + slide g x.place w + d)
      move q z w v d zw wv cd h =
          subst (λ (p : Place). IsWaiting q p (x.dist + slide g x.place w + d)) wv
          (subst (λ (t : ℤ). IsWaiting q (at to t) (x.dist + slide g x.place t + d)) zw
          (subst (λ (n : ℕ). IsWaiting q (at to z) (x.dist + slide g x.place z + n)) cd h))

  pub covers_beside : (q : Queued) (near far : Place) → near.interval ≡ from → far.interval ≡ to → near.coord ≡ clamped run.span.lo run.span.hi x.place.coord → far.coord ≡ clamped run.span.lo run.span.hi x.place.coord → (x.place.interval ≡ near.interval → IsWaiting q far (x.dist + slide g x.place near.coord + run.cost)) → Climbs g known q x run from to → CoversFrom g known q x k from to
  covers_beside q near far nf ft nx fx next climbs =
      let m : ℤ = clamped run.span.lo run.span.hi x.place.coord in
      covers_from q m refl
      (λ i. subst (λ (u : Place). IsWaiting q u (x.dist + slide g x.place m + run.cost)) (sym (place_is far to m ft fx)) (subst (λ (z : ℤ). IsWaiting q far (x.dist + slide g x.place z + run.cost)) nx (next (i ∙ sym nf))))
      climbs

  -- a span without coordinates joins nothing
  pub covers_empty : (q : Queued) → run.span.hi <ℤ run.span.lo → CoversFrom g known q x k from to
  covers_empty q empty u v d y crossing uf vt e =
      let same : y.run ≡ run = same_Some y.run run (sym y.at ∙ is.at) in
      let lo : run.span.lo ≤ℤ u.coord = subst (λ (z : Run). z.span.lo ≤ℤ u.coord) same y.low in
      let hi : u.coord ≤ℤ run.span.hi = subst (λ (z : Run). u.coord ≤ℤ z.span.hi) same y.high in
      absurd (omega (arith, ints, lo, hi, empty))

pub covers_from_kept : (g : Graph) (known : Option Rows) (q r : Queued) (x : Label) (k : ℕ) (from to : IntervalNo) → ((f : ℕ × Label) → Contains q f → Contains r f) → CoversFrom g known q x k from to → CoversFrom g known r x k from to
covers_from_kept g known q r x k from to keeps h u v d y crossing uf vt e = waiting_kept q r keeps v _ (h u v d y crossing uf vt e)

pub covers_run : (g : Graph) (known : Option Rows) (q : Queued) (x : Label) (k : ℕ) (run : Run) → slice_get g.runs k ≡ Some run → CoversFrom g known q x k run.a run.b → CoversFrom g known q x k run.b run.a → CoversRun g known q x k
covers_run g known q x k run has there back u v d y crossing e =
    let same : y.run ≡ run = same_Some y.run run (sym y.at ∙ has) in
    ⊎_elim
    (λ (h : (u.interval ≡ y.run.a) × (v.interval ≡ y.run.b)). there u v d y crossing (h.0 ∙ ap (λ (z : Run). z.a) same) (h.1 ∙ ap (λ (z : Run). z.b) same) e)
    (λ (h : (u.interval ≡ y.run.b) × (v.interval ≡ y.run.a)). back u v d y crossing (h.0 ∙ ap (λ (z : Run). z.b) same) (h.1 ∙ ap (λ (z : Run). z.a) same) e)
    y.ends

pub covers_point_kept : (g : Graph) (q r : Queued) (x : Label) (k : ℕ) → ((f : ℕ × Label) → Contains q f → Contains r f) → CoversPoint g q x k → CoversPoint g r x k
covers_point_kept g q r x k keeps h u v d y e = waiting_kept q r keeps v _ (h u v d y e)

pub covers_run_kept : (g : Graph) (known : Option Rows) (q r : Queued) (x : Label) (k : ℕ) → ((f : ℕ × Label) → Contains q f → Contains r f) → CoversRun g known q x k → CoversRun g known r x k
covers_run_kept g known q r x k keeps h u v d y crossing e = waiting_kept q r keeps v _ (h u v d y crossing e)

pub climbs_kept : (g : Graph) (q r : Queued) (x : Label) (run : Run) (from to : IntervalNo) (z : ℤ) → ((f : ℕ × Label) → Contains q f → Contains r f) → ClimbsAt g q x run from to z → ClimbsAt g r x run from to z
climbs_kept g q r x run from to z keeps h l u e = waiting_kept q r keeps _ _ (h l u e)

-- no mark is known
pub climbs_none : (g : Graph) (known : Option Rows) (q : Queued) (x : Label) (run : Run) (from to : IntervalNo) → known ≡ None → Climbs g known q x run from to
climbs_none g known q x run from to none steep e z l u m = absurd (clash m.0 (sym none ∙ m.1))
  where
    clash : (rows : Rows) → None ≡ Some rows → ⊥
    clash rows e = cc

-- the far factor isn't larger
pub climbs_flat : (g : Graph) (known : Option Rows) (q : Queued) (x : Label) (run : Run) (from to : IntervalNo) → factor_at g to.0 ≤ factor_at g from.0 → Climbs g known q x run from to
climbs_flat g known q x run from to flat steep e z l u m = absurd (omega (arith, flat, steep))

-- each mark of the row is crossed
pub climbs_all : (g : Graph) (known : Option Rows) (q : Queued) (x : Label) (run : Run) (from to : IntervalNo) (rows : Rows) (row : List Mark) → known ≡ Some rows → row ≡ row_at rows to.0 → ((j : ℕ) (m : Mark) → slice_get row j ≡ Some m → ClimbsAt g q x run from to m.coord) → Climbs g known q x run from to
climbs_all g known q x run from to rows row is row_is all steep e z l u m =
    let same : m.0 ≡ rows = same_rows m.0 rows (sym m.1 ∙ is) in
    let listed : Contains (row_at rows to.0) (record { coord = z }) = subst (λ (r : Rows). Contains (row_at r to.0) (record { coord = z })) same m.2 in
    let in_row : Contains row (record { coord = z }) = subst (λ (r : List Mark). Contains r (record { coord = z })) (sym row_is) listed in
    all in_row.0 (record { coord = z }) (slice_get_read row (length row) in_row.0 (record { coord = z }) refl in_row.1 (sym in_row.2)) l u e
  where
    same_rows : (a b : Rows) → Some a ≡ Some b → a ≡ b
    same_rows a b e = cc

-- one more number of a list
pub more_of : (P : ℕ → Type 0) (ks : List ℕ) (i : ℕ) → i < length ks → ((j k : ℕ) → j < i → slice_get ks j ≡ Some k → P k) → P (slice_index_or ks i 0) → (j k : ℕ) → j < i + 1 → slice_get ks j ≡ Some k → P k
more_of P ks i w h p j k l e = ⊎_elim
    (λ (l : j < i). h j k l e)
    (λ (m : i ≤ j).
    let ij : i ≡ j = omega (arith, l) in
    let here : slice_get ks i ≡ Some (slice_index_or ks i 0) = slice_get-get_or ks i 0 w in
    subst (λ (n : ℕ). P n) (same_Some (slice_index_or ks i 0) k (sym here ∙ ap (slice_get ks) ij ∙ e)) p)
    (cases_lt j i)

at_place : (ks : List ℕ) (k : ℕ) (h : Contains ks k) → slice_get ks h.0 ≡ Some k
at_place ks k h = slice_get_read ks (length ks) h.0 k refl h.1 (sym h.2)

pub bridge_within : (g : Graph) (n : ℕ) (ks : List ℕ) (k : ℕ) → AreExactly (IsBridgeOf g n) ks → Contains ks k → k < length g.bridges
bridge_within g n ks k h c = let b : IsBridgeOf g n k = h.only k c in slice_get_within g.bridges k b.bridge b.at

pub run_within : (g : Graph) (n : ℕ) (ks : List ℕ) (k : ℕ) → AreExactly (IsRunOf g n) ks → Contains ks k → k < length g.runs
run_within g n ks k h c = let b : IsRunOf g n k = h.only k c in slice_get_within g.runs k b.run b.at

-- the bridges of the label's interval are all that lead from it
pub all_points : (g : Graph) (q : Queued) (x : Label) (ks : List ℕ) → AreExactly (IsBridgeOf g x.place.interval.0) ks → ((j k : ℕ) → slice_get ks j ≡ Some k → CoversPoint g q x k) → (k : ℕ) → CoversPoint g q x k
all_points g q x ks exact h k u v d y e =
    let own : IsBridgeOf g x.place.interval.0 k = record {
      bridge = y.bridge;
      at = y.at;
      touches = ⊎_elim
          (λ (s : (u ≡ y.bridge.a) × (v ≡ y.bridge.b)). inl (sym (ap (λ (i : IntervalNo). i.0) e ∙ ap (λ (p : Place). p.interval.0) s.0)))
          (λ (s : (u ≡ y.bridge.b) × (v ≡ y.bridge.a)). inr (sym (ap (λ (i : IntervalNo). i.0) e ∙ ap (λ (p : Place). p.interval.0) s.0)))
          y.ends;
    } in
    let c : Contains ks k = exact.every k own in
    h c.0 k (at_place ks k c) u v d y e

-- so are its runs
pub all_runs : (g : Graph) (known : Option Rows) (q : Queued) (x : Label) (ks : List ℕ) → AreExactly (IsRunOf g x.place.interval.0) ks → ((j k : ℕ) → slice_get ks j ≡ Some k → CoversRun g known q x k) → (k : ℕ) → CoversRun g known q x k
all_runs g known q x ks exact h k u v d y crossing e =
    let own : IsRunOf g x.place.interval.0 k = record {
      run = y.run;
      at = y.at;
      touches = ⊎_elim
          (λ (s : (u.interval ≡ y.run.a) × (v.interval ≡ y.run.b)). inl (sym (ap (λ (i : IntervalNo). i.0) (e ∙ s.0))))
          (λ (s : (u.interval ≡ y.run.b) × (v.interval ≡ y.run.a)). inr (sym (ap (λ (i : IntervalNo). i.0) (e ∙ s.0))))
          y.ends;
    } in
    let c : Contains ks k = exact.every k own in
    h c.0 k (at_place ks k c) u v d y crossing e

-- both intervals of a run are there
pub run_ends_within : (g : Graph) (k : ℕ) (run : Run) (from to : IntervalNo) → IsJoined g → IsRunFrom g k run from to → (from.0 < length g.intervals) × (to.0 < length g.intervals)
run_ends_within g k run from to joined is =
    let r : IsRun g.intervals run = joined.runs k run is.at in
    let a : run.a.0 < length g.intervals = slice_get_within g.intervals run.a.0 r.a r.a_at in
    let b : run.b.0 < length g.intervals = slice_get_within g.intervals run.b.0 r.b r.b_at in
    ⊎_elim
    (λ (d : (from ≡ run.a) × (to ≡ run.b)). (subst (λ (n : IntervalNo). n.0 < length g.intervals) (sym d.0) a, subst (λ (n : IntervalNo). n.0 < length g.intervals) (sym d.1) b))
    (λ (d : (from ≡ run.b) × (to ≡ run.a)). (subst (λ (n : IntervalNo). n.0 < length g.intervals) (sym d.0) b, subst (λ (n : IntervalNo). n.0 < length g.intervals) (sym d.1) a))
    is.ends
