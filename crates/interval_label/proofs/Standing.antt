use Rattle.std.proofs.Common.{◌≡◌, ◌⊎◌, inl, inr, ℕ, zero, suc, ℤ, sym, subst, List, Contains, ⊎_elim}
use Rattle.label_arena.specs.declared.place.Place.{Place}
use Rattle.label_arena.specs.Lists.{Graph}
use Rattle.label_arena.specs.Plain.{IsInside, IsPointWay, IsRunWay, IsJoined, IsRun}
use Rattle.label_arena.specs.Marks.{IsMark, IsMarkBy, IsBridgeEnd}
use Rattle.label_arena.specs.declared.place.IntervalNo.{IntervalNo}
use Rattle.interval_label.specs.Task.{Stop, AreStops}

module _ (g : Graph) (sources targets : List Stop) where
  pub mark_source : (v : Place) (c : ℕ) → Contains sources (v, c) → IsMark g sources targets v
  mark_source v c h = (0, inl (c, h))

  pub mark_target : (v : Place) (c : ℕ) → Contains targets (v, c) → IsMark g sources targets v
  mark_target v c h = (0, inr (inl (c, h)))

  pub mark_bridge : (k : ℕ) (v w : Place) (c : ℕ) → IsPointWay g k v w c → IsMark g sources targets v
  mark_bridge k v w c y = (0, inr (inr (inl (k, w, c, y))))

  pub mark_run_end : (k : ℕ) (v w : Place) (c : ℕ) (y : IsRunWay g k v w c) → (v.coord ≡ y.run.span.lo) ⊎ (v.coord ≡ y.run.span.hi) → IsMark g sources targets v
  mark_run_end k v w c y e = (0, inr (inr (inr (k, w, c, y, e))))

  pub mark_along : (k : ℕ) (u v : Place) (c : ℕ) → IsRunWay g k u v c → IsMark g sources targets u → IsMark g sources targets v
  mark_along k u v c y m = (suc m.0, inr (k, u, c, y, m.1))

  module _ (joined : IsJoined g) (sources_are : AreStops g sources) (targets_are : AreStops g targets) where
    way_inside : (k : ℕ) (u v : Place) (c : ℕ) → IsRunWay g k u v c → IsInside g u × IsInside g v
    way_inside k u v c y =
        let r : IsRun g.intervals y.run = joined.runs k y.run y.at in
        let here : IsInside g (record { interval = y.run.a; coord = u.coord }) × IsInside g (record { interval = y.run.b; coord = u.coord }) = r.holds u.coord y.low y.high in
        ⊎_elim
        (λ (d : (u.interval ≡ y.run.a) × (v.interval ≡ y.run.b)). (subst (λ (n : IntervalNo). IsInside g (record { interval = n; coord = u.coord })) (sym d.0) here.0, subst (λ (z : ℤ). IsInside g (record { interval = v.interval; coord = z })) y.straight (subst (λ (n : IntervalNo). IsInside g (record { interval = n; coord = u.coord })) (sym d.1) here.1)))
        (λ (d : (u.interval ≡ y.run.b) × (v.interval ≡ y.run.a)). (subst (λ (n : IntervalNo). IsInside g (record { interval = n; coord = u.coord })) (sym d.0) here.1, subst (λ (z : ℤ). IsInside g (record { interval = v.interval; coord = z })) y.straight (subst (λ (n : IntervalNo). IsInside g (record { interval = n; coord = u.coord })) (sym d.1) here.0)))
        y.ends

    bridge_end_inside : (v : Place) → IsBridgeEnd g v → IsInside g v
    bridge_end_inside v (k, w, c, y) = ⊎_elim
        (λ (d : (v ≡ y.bridge.a) × (w ≡ y.bridge.b)). subst (λ (p : Place). IsInside g p) (sym d.0) (joined.bridges k y.bridge y.at).a)
        (λ (d : (v ≡ y.bridge.b) × (w ≡ y.bridge.a)). subst (λ (p : Place). IsInside g p) (sym d.0) (joined.bridges k y.bridge y.at).b)
        y.ends

    -- marks are places of the graph
    pub mark_inside : (n : ℕ) (v : Place) → IsMarkBy g sources targets n v → IsInside g v
    mark_inside zero v (inl s) = (sources_are (v, s.0) s.1).0
    mark_inside zero v (inr (inl s)) = (targets_are (v, s.0) s.1).0
    mark_inside zero v (inr (inr (inl e))) = bridge_end_inside v e
    mark_inside zero v (inr (inr (inr e))) = (way_inside e.0 v e.1 e.2 e.3).0
    mark_inside (suc n) v (inl m) = mark_inside n v m
    mark_inside (suc n) v (inr y) = (way_inside y.0 y.1 v y.2 y.3).1
