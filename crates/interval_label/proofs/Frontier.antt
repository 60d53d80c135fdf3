use Rattle.std.proofs.Common.{◌≡◌, ◌⊎◌, inl, inr, ℕ, ◌+◌, ◌*◌, ◌<◌, ◌≤◌, ℤ, ◌≤ℤ◌, sym, refl, ap, ◌∙◌, subst, List, Option, Some, None, Contains, All, arith, ⊎_elim}
use Rattle.std.proofs.lemmas.Bool.{cases_lt}
use Rattle.std.proofs.lemmas.Int.{ints}
use Rattle.std.proofs.lemmas.List.Elements.{All-contains}
use Rattle.std.proofs.Math.Nat.{mul-le-mul_right}
use Rattle.label_arena.specs.declared.place.Place.{Place}
use Rattle.label_arena.specs.declared.place.IntervalNo.{IntervalNo}
use Rattle.label_arena.specs.declared.place.Label.{Label}
use Rattle.label_arena.specs.Lists.{Graph}
use Rattle.label_arena.specs.Marks.{IsMark}
use Rattle.label_arena.specs.Plain.{gap, factor_at, slide, IsInside, IsNext, IsPointWay, IsRunWay, Reaches, IsConsistent, IsJoined}
use Rattle.interval_label.specs.Task.{Stop}
use Rattle.interval_label.proofs.Standing.{mark_source, mark_bridge, mark_run_end, mark_along}
use Rattle.interval_label.specs.Known.{Rows, row_at, IsListed, IsKnown, KnowsMarks}
use Rattle.interval_label.specs.Queue.{Queued, IsWaiting}
use Rattle.interval_label.specs.Search.{IsExplained, clamped}
use Rattle.interval_label.specs.State.{IsCovered, IsSound}
use Rattle.interval_label.proofs.Gaps.{far_triangle, gap_clamped, clamped_low, clamped_high}
use Rattle.interval_label.proofs.Sliding.{at, slid}
use Rattle.interval_label.proofs.Strips.{marks_met}
use Rattle.interval_label.proofs.Members.{has_mark}

-- a queued key is at most c and the bound at v
pub record IsPending (b : Place → ℕ) (q : Queued) (v : Place) (c : ℕ) : Type 0 where
  pub key : ℕ
  pub candidate : Label
  pub queued : Contains q (key, candidate)
  pub low : key ≤ c + b v

-- v is explained at c, or the search isn't beyond c there
abbrev pub IsMet : Graph → (Place → ℕ) → List Label → Queued → Place → ℕ → Type 0
IsMet g b ls q v c = IsExplained g ls v c ⊎ IsPending b q v c

pub explained_more : (g : Graph) (ls : List Label) (v : Place) (c d : ℕ) → IsExplained g ls v c → c ≤ d → IsExplained g ls v d
explained_more g ls v c d h k = record { number = h.number; label = h.label; is = h.is; one_interval = h.one_interval; cheap = omega (arith, h.cheap) }

flip : {u v a b : IntervalNo} → ((u ≡ a) × (v ≡ b)) ⊎ ((u ≡ b) × (v ≡ a)) → ((v ≡ a) × (u ≡ b)) ⊎ ((v ≡ b) × (u ≡ a))
flip h = ⊎_elim (λ d. inr (d.1, d.0)) (λ d. inl (d.1, d.0)) h

between : (a b c : ℤ) → a ≤ℤ b → b ≤ℤ c → a ≤ℤ c
between a b c h k = omega (arith, ints)

module _ (g : Graph) (sources targets : List Stop) (b : Place → ℕ) (o : Option Rows) (ls : List Label) (q : Queued) (sound : IsSound g sources targets b o ls q) (ok : IsJoined g) (consistent : IsConsistent g b) where
  met_more : (v : Place) (c d : ℕ) → IsMet g b ls q v c → c ≤ d → IsMet g b ls q v d
  met_more v c d h k = ⊎_elim
      (λ (e : IsExplained g ls v c). inl (explained_more g ls v c d e k))
      (λ (p : IsPending b q v c). inr (record { key = p.key; candidate = p.candidate; queued = p.queued; low = omega (arith, p.low) }))
      h

  met_covered : (v : Place) (c : ℕ) → IsCovered g ls q v c → IsMet g b ls q v c
  met_covered v c h = ⊎_elim
      (λ (e : IsExplained g ls v c). inl e)
      (λ (w : IsWaiting q v c).
      let key : w.key ≡ w.candidate.dist + b w.candidate.place = sound.state.keys w.key w.candidate w.queued in
      let place : b w.candidate.place ≡ b v = ap b w.place in
      inr (record { key = w.key; candidate = w.candidate; queued = w.queued; low = omega (arith, key, w.cheap, place) }))
      h

  met_next : (u v : Place) (c e : ℕ) → IsMet g b ls q u c → IsNext g u v e → IsMet g b ls q v (c + e)
  met_next u v c e h n = ⊎_elim
      (λ (x : IsExplained g ls u c).
      let f : ℕ = factor_at g x.label.place.interval.0 in
      let fe : e ≡ f = n.cost ∙ ap (λ (n : IntervalNo). factor_at g n.0) (sym x.one_interval) in
      let one : f * gap u.coord v.coord ≡ f * 1 = ap (λ m. f * m) n.near in
      inl (record { number = x.number; label = x.label; is = x.is; one_interval = x.one_interval ∙ n.one_interval; cheap = omega (arith, x.cheap, far_triangle f x.label.place.coord u.coord v.coord, one, fe) }))
      (λ (p : IsPending b q u c). inr (record { key = p.key; candidate = p.candidate; queued = p.queued; low = omega (arith, p.low, consistent u v e (inl n)) }))
      h

  met_slid : (u v : Place) (c : ℕ) → IsInside g u → IsInside g v → u.interval ≡ v.interval → IsMet g b ls q u c → IsMet g b ls q v (c + slide g u v.coord)
  met_slid = slid g (IsMet g b ls q) met_next

  met_point : (k : ℕ) (u v : Place) (c e : ℕ) → IsMet g b ls q u c → IsPointWay g k u v e → IsMet g b ls q v (c + e)
  met_point k u v c e h y = ⊎_elim
      (λ (x : IsExplained g ls u c).
      met_more v (x.label.dist + slide g x.label.place u.coord + e) (c + e)
      (met_covered v _ ((sound.spread x.number x.label x.is).points k u v e y x.one_interval)) (omega (arith, x.cheap)))
      (λ (p : IsPending b q u c). inr (record { key = p.key; candidate = p.candidate; queued = p.queued; low = omega (arith, p.low, consistent u v e (inr (inl (k, y)))) }))
      h

  -- the places of a run at one coordinate
  run_at : (k : ℕ) (u v : Place) (e : ℕ) (y : IsRunWay g k u v e) (x : ℤ) → y.run.span.lo ≤ℤ x → x ≤ℤ y.run.span.hi → IsInside g (at u.interval x) × IsInside g (at v.interval x)
  run_at k u v e y x l h =
      let i : IsInside g (at y.run.a x) × IsInside g (at y.run.b x) = (ok.runs k y.run y.at).holds x l h in
      ⊎_elim
      (λ (d : (u.interval ≡ y.run.a) × (v.interval ≡ y.run.b)). (subst (λ n. IsInside g (at n x)) (sym d.0) i.0, subst (λ n. IsInside g (at n x)) (sym d.1) i.1))
      (λ (d : (u.interval ≡ y.run.b) × (v.interval ≡ y.run.a)). (subst (λ n. IsInside g (at n x)) (sym d.0) i.1, subst (λ n. IsInside g (at n x)) (sym d.1) i.0))
      y.ends

  met_run : (k : ℕ) (u v : Place) (c e : ℕ) → (factor_at g u.interval.0 < factor_at g v.interval.0 → IsKnown o v) → IsMet g b ls q u c → IsRunWay g k u v e → IsMet g b ls q v (c + e)
  met_run k u v c e known h y = ⊎_elim
      (λ (x : IsExplained g ls u c). ⊎_elim
      (λ (steep : factor_at g u.interval.0 < factor_at g v.interval.0).
      met_more v (x.label.dist + slide g x.label.place u.coord + e) (c + e)
      (met_covered v _ ((sound.spread x.number x.label x.is).runs k u v e y (inr (steep, known steep)) x.one_interval)) (omega (arith, x.cheap)))
      (λ (gentle : factor_at g v.interval.0 ≤ factor_at g u.interval.0).
      let lx : ℤ = x.label.place.coord in
      let m : ℤ = clamped y.run.span.lo y.run.span.hi lx in
      let order : y.run.span.lo ≤ℤ y.run.span.hi = between y.run.span.lo u.coord y.run.span.hi y.low y.high in
      let vh : v.coord ≤ℤ y.run.span.hi = subst (λ (z : ℤ). z ≤ℤ y.run.span.hi) y.straight y.high in
      let vl : y.run.span.lo ≤ℤ v.coord = subst (λ (z : ℤ). y.run.span.lo ≤ℤ z) y.straight y.low in
      let ml : y.run.span.lo ≤ℤ m = clamped_low y.run.span.lo y.run.span.hi lx order in
      let mh : m ≤ℤ y.run.span.hi = clamped_high y.run.span.lo y.run.span.hi lx order in
      let near = run_at k u v e y m ml mh in
      let way : IsRunWay g k (at u.interval m) (at v.interval m) e = record { run = y.run; at = y.at; ends = y.ends; straight = refl; low = ml; high = mh; cost = y.cost } in
      let here = run_at k u v e y v.coord vl vh in
      let f : ℕ = factor_at g x.label.place.interval.0 in
      let fe : f ≡ factor_at g u.interval.0 = ap (λ (n : IntervalNo). factor_at g n.0) x.one_interval in
      let far : IsMet g b ls q (at v.interval m) (x.label.dist + f * gap lx m + e) =
      met_covered (at v.interval m) _ ((sound.spread x.number x.label x.is).runs k (at u.interval m) (at v.interval m) e way (inl refl) x.one_interval) in
      let back : IsMet g b ls q v (x.label.dist + f * gap lx m + e + factor_at g v.interval.0 * gap m v.coord) = met_slid (at v.interval m) v _ near.1 here.1 refl far in
      let split : f * gap lx u.coord ≡ f * (gap lx m + gap m v.coord) = ap (λ (z : ℤ). f * gap lx z) y.straight ∙ ap (λ n. f * n) (gap_clamped y.run.span.lo y.run.span.hi lx v.coord vl vh) in
      let less : factor_at g v.interval.0 * gap m v.coord ≤ f * gap m v.coord = mul-le-mul_right (gap m v.coord) (omega (arith, gentle, fe)) in
      met_more v _ (c + e) back (omega (arith, x.cheap, split, less)))
      (cases_lt (factor_at g u.interval.0) (factor_at g v.interval.0)))
      (λ (p : IsPending b q u c). inr (record { key = p.key; candidate = p.candidate; queued = p.queued; low = omega (arith, p.low, consistent u v e (inr (inr (k, y)))) }))
      h

  -- each walk to a place of a closed set that holds the marks leads to where the search has come or has yet to come
  module _ (M : Place → Type 0) (decide : (v : Place) → M v ⊎ (M v → ⊥)) (marks : (v : Place) → IsMark g sources targets v → M v) (closed : (k : ℕ) (u v : Place) (e : ℕ) → IsRunWay g k u v e → M u → M v) (known : (k : ℕ) (u v : Place) (e : ℕ) → IsRunWay g k u v e → M u → factor_at g u.interval.0 < factor_at g v.interval.0 → IsKnown o v) where
    met_closed : (v : Place) (c : ℕ) → M v → Reaches g sources v c → IsMet g b ls q v c
    met_closed = marks_met g M (IsMet g b ls q) met_more
        (λ u v c mu mv iu iv e h. met_slid u v c iu iv e h)
        (λ k u v c e mu h y. met_run k u v c e (known k u v e y mu) h y)
        closed
        (λ k u v e y. inside k u v e y)
        ends
        decide
        (λ k u v e y. (marks u (mark_bridge g sources targets k u v e y), marks v (mark_bridge g sources targets k v u e (back k u v e y))))
        (λ k u v c e mu h y. met_point k u v c e h y)
        sources
        (λ s h. (marks s.0 (mark_source g sources targets s.0 s.1 h), met_covered s.0 s.1 (sound.sources_in s h)))
      where
        inside : (k : ℕ) (u v : Place) (e : ℕ) → IsRunWay g k u v e → IsInside g v
        inside k u v e y =
            let here = run_at k u v e y v.coord (subst (λ (z : ℤ). y.run.span.lo ≤ℤ z) y.straight y.low) (subst (λ (z : ℤ). z ≤ℤ y.run.span.hi) y.straight y.high) in here.1

        back : (k : ℕ) (u v : Place) (e : ℕ) → IsPointWay g k u v e → IsPointWay g k v u e
        back k u v e y = record { bridge = y.bridge; at = y.at; ends = ⊎_elim (λ d. inr (d.1, d.0)) (λ d. inl (d.1, d.0)) y.ends; cost = y.cost }

        over : (k : ℕ) (J K : IntervalNo) (y : ℤ) (e : ℕ) (r : IsRunWay g k (at J y) (at K y) e) (x : ℤ) → r.run.span.lo ≤ℤ x → x ≤ℤ r.run.span.hi → IsRunWay g k (at J x) (at K x) e
        over k J K y e r x l h = record { run = r.run; at = r.at; ends = r.ends; straight = refl; low = l; high = h; cost = r.cost }

        over_back : (k : ℕ) (J K : IntervalNo) (y : ℤ) (e : ℕ) (r : IsRunWay g k (at J y) (at K y) e) (x : ℤ) → r.run.span.lo ≤ℤ x → x ≤ℤ r.run.span.hi → IsRunWay g k (at K x) (at J x) e
        over_back k J K y e r x l h = record { run = r.run; at = r.at; ends = flip r.ends; straight = refl; low = l; high = h; cost = r.cost }

        same_z : (x : ℤ) → x ≤ℤ x
        same_z x = search (arith, ints)

        ends : (k : ℕ) (J K : IntervalNo) (y : ℤ) (e : ℕ) (r : IsRunWay g k (at J y) (at K y) e) → M (at J r.run.span.lo) × M (at J r.run.span.hi) × M (at K r.run.span.lo) × M (at K r.run.span.hi)
        ends k J K y e r =
            let order : r.run.span.lo ≤ℤ r.run.span.hi = between r.run.span.lo y r.run.span.hi r.low r.high in
            let lo = same_z r.run.span.lo in
            let hi = same_z r.run.span.hi in (
              marks _ (mark_run_end g sources targets k (at J r.run.span.lo) (at K r.run.span.lo) e (over k J K y e r r.run.span.lo lo order) (inl refl)),
              marks _ (mark_run_end g sources targets k (at J r.run.span.hi) (at K r.run.span.hi) e (over k J K y e r r.run.span.hi order hi) (inr refl)),
              marks _ (mark_run_end g sources targets k (at K r.run.span.lo) (at J r.run.span.lo) e (over_back k J K y e r r.run.span.lo lo order) (inl refl)),
              marks _ (mark_run_end g sources targets k (at K r.run.span.hi) (at J r.run.span.hi) e (over_back k J K y e r r.run.span.hi order hi) (inr refl)),
            )

-- each walk to a mark leads to where the search has come or has yet to come
pub met_reached : (g : Graph) (sources targets : List Stop) (b : Place → ℕ) (o : Option Rows) (ls : List Label) (q : Queued) → IsSound g sources targets b o ls q → IsJoined g → IsConsistent g b → KnowsMarks g sources targets o → (v : Place) (c : ℕ) → IsMark g sources targets v → Reaches g sources v c → IsMet g b ls q v c
met_reached g sources targets b None ls q sound ok consistent even v c mark r = met_closed g sources targets b None ls q sound ok consistent (λ v. Unit {0}) (λ v. inl tt) (λ v m. tt) (λ k u v e y m. tt) (λ k u v e y m l. absurd (flat k u v e y l)) v c tt r
  where
    flat : (k : ℕ) (u v : Place) (e : ℕ) → IsRunWay g k u v e → factor_at g u.interval.0 < factor_at g v.interval.0 → ⊥
    flat k u v e y l = ⊎_elim
        (λ (d : (u.interval ≡ y.run.a) × (v.interval ≡ y.run.b)). let f : factor_at g u.interval.0 ≡ factor_at g v.interval.0 = ap (λ (n : IntervalNo). factor_at g n.0) d.0 ∙ even k y.run y.at ∙ ap (λ (n : IntervalNo). factor_at g n.0) (sym d.1) in omega (arith, l, f))
        (λ (d : (u.interval ≡ y.run.b) × (v.interval ≡ y.run.a)). let f : factor_at g u.interval.0 ≡ factor_at g v.interval.0 = ap (λ (n : IntervalNo). factor_at g n.0) d.0 ∙ sym (even k y.run y.at) ∙ ap (λ (n : IntervalNo). factor_at g n.0) (sym d.1) in omega (arith, l, f))
        y.ends
met_reached g sources targets b (Some rows) ls q sound ok consistent hold v c mark r = met_closed g sources targets b (Some rows) ls q sound ok consistent
    (λ v. IsListed rows v)
    (λ v. has_mark (row_at rows v.interval.0) (record { coord = v.coord }))
    hold.all
    (λ k u v e y m. hold.all v (mark_along g sources targets k u v e y (hold.marks u m)))
    (λ k u v e y m l. (rows, refl, hold.all v (mark_along g sources targets k u v e y (hold.marks u m))))
    v c (hold.all v mark) r

-- a least key's candidate that no label explains has its least distance
pub least_taken : (g : Graph) (sources targets : List Stop) (b : Place → ℕ) (o : Option Rows) (ls : List Label) (q : Queued) → IsSound g sources targets b o ls q → IsJoined g → IsConsistent g b → KnowsMarks g sources targets o → (d : ℕ) (x : Label) → Contains q (d, x) → All (λ (f : ℕ × Label). d ≤ f.0) q → (IsExplained g ls x.place x.dist → ⊥) → (c : ℕ) → Reaches g sources x.place c → x.dist ≤ c
least_taken g sources targets b o ls q sound ok consistent known d x has first new c r =
    let key : d ≡ x.dist + b x.place = sound.state.keys d x has in
    ⊎_elim
    (λ (e : IsExplained g ls x.place c). ⊎_elim
    (λ (l : c < x.dist). absurd (new (explained_more g ls x.place c x.dist e (omega arith))))
    (λ (l : x.dist ≤ c). l)
    (cases_lt c x.dist))
    (λ (p : IsPending b q x.place c).
    let low : d ≤ p.key = All-contains (λ (f : ℕ × Label). d ≤ f.0) q (p.key, p.candidate) first p.queued in
    omega (arith, p.low, key, low))
    (met_reached g sources targets b o ls q sound ok consistent known x.place c (sound.state.waits d x has).mark r)
