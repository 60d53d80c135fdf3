-- Over which steps the bound falls by how much.
use Rattle.std.proofs.Common.{◌≡◌, ◌⊎◌, inl, inr, ℕ, ◌+◌, ◌-◌, ◌*◌, ◌≤◌, ◌<◌, ◌^◌, ◌≤ℤ◌, ◌-ℤ◌, ℤ, unsigned_abs, zero, suc, sym, refl, ap, ◌∙◌, subst, Bool, true, false, if◌then◌else◌, List, length, arith, Option, Some, All, Contains, slice_get, unwrap_or, option_map, pos, ⊎_elim}
use Rattle.std.specs.Int.{int_gap}
use Rattle.std.proofs.Math.Nat.{mul-le-mul, mul-le-mul_left}
use Rattle.std.proofs.lemmas.Int.{ints}
use Rattle.std.proofs.lemmas.Option.{same_Some}
use Rattle.std.proofs.lemmas.List.Elements.{All-contains}
use Rattle.rt_base.specs.declared.walk.Vertex.{Vertex}
use Rattle.rt_base.specs.Ranges.{IsWithin}
use Rattle.label_arena.specs.declared.place.Place.{Place}
use Rattle.label_arena.specs.declared.place.Interval.{Interval}
use Rattle.label_arena.specs.declared.place.Bridge.{Bridge}
use Rattle.label_arena.specs.declared.place.Run.{Run}
use Rattle.label_arena.specs.Lists.{Graph}
use Rattle.label_arena.specs.Plain.{gap, vertex_on, vertex_of, factor_at, IsNext, IsPointWay, IsRunWay, IsStep, IsConsistent}
use Rattle.future_cost.specs.declared.bound.Bound.{Bound}
use Rattle.future_cost.specs.Under.{outside, levels_outside, under, IsHullOf}
use Rattle.future_cost.specs.Laws.{distance, IsWireStep, IsViaStep, Falls, IsFair, FallsInArenas, IsNear, IsSmall}

outside_falls : (l h y z : ℤ) → outside l h y ≤ unsigned_abs (y -ℤ z) + outside l h z
outside_falls l h y z = grind (arith, ints)

levels_fall : (bottom top m n : ℕ) → (m ≡ n + 1) ⊎ (n ≡ m + 1) → levels_outside bottom top m ≤ 1 + levels_outside bottom top n
levels_fall bottom top m n (inl e) = omega arith
levels_fall bottom top m n (inr e) = omega arith

wire_falls : (b : Bound) (u v : Vertex) (c : ℕ) → IsWireStep u v c → under b u ≤ c + under b v
wire_falls b u v c h =
    let x = outside_falls b.x.lo b.x.hi u.point.x v.point.x in
    let y = outside_falls b.y.lo b.y.hi u.point.y v.point.y in
    let z : b.via * levels_outside b.bottom b.top u.level ≡ b.via * levels_outside b.bottom b.top v.level = ap (λ (n : ℕ). b.via * levels_outside b.bottom b.top n) h.level in
    omega (arith, h.cost)

via_falls : (b : Bound) (u v : Vertex) (c : ℕ) → IsViaStep b.via u v c → under b u ≤ c + under b v
via_falls b u v c h =
    let x : outside b.x.lo b.x.hi u.point.x ≡ outside b.x.lo b.x.hi v.point.x = ap (outside b.x.lo b.x.hi) (ap (λ p. p.x) h.point) in
    let y : outside b.y.lo b.y.hi u.point.y ≡ outside b.y.lo b.y.hi v.point.y = ap (outside b.y.lo b.y.hi) (ap (λ p. p.y) h.point) in
    let z : b.via * levels_outside b.bottom b.top u.level ≤ b.via * (1 + levels_outside b.bottom b.top v.level) = mul-le-mul_left b.via (levels_fall b.bottom b.top u.level v.level h.levels) in
    omega (arith, h.cost, by_one b.via (levels_outside b.bottom b.top v.level))
  where
    by_one : (n m : ℕ) → n * (1 + m) ≡ n + n * m
    by_one n m = grind arith

pub falls : (b : Bound) (via : ℕ) → b.via ≡ via → Falls via (under b)
falls b via e u v c (inl h) = wire_falls b u v c h
falls b via e u v c (inr h) = via_falls b u v c (subst (λ (n : ℕ). IsViaStep n u v c) (sym e) h)

-- between two coordinates of one interval
along_falls : (b : Bound) (i : Interval) (x y : ℤ) (c : ℕ) → unsigned_abs (x -ℤ y) ≤ c → under b (vertex_on i x) ≤ c + under b (vertex_on i y)
along_falls b i x y c h = wire_falls b (vertex_on i x) (vertex_on i y) c (record { level = refl; cost = far i.horizontal i.line })
  where
    far : (horizontal : Bool) (line : ℤ) → distance
        (record { level = i.level; point = if horizontal then record { x = x; y = line } else record { x = line; y = x } })
        (record { level = i.level; point = if horizontal then record { x = y; y = line } else record { x = line; y = y } }) ≤ c
    far true line = omega (arith, ints, h)
    far false line = omega (arith, ints, h)

-- between two lines at one coordinate
across_falls : (b : Bound) (i j : Interval) (x : ℤ) (c : ℕ) → i.level ≡ j.level → i.horizontal ≡ j.horizontal → unsigned_abs (i.line -ℤ j.line) ≤ c → under b (vertex_on i x) ≤ c + under b (vertex_on j x)
across_falls b i j x c level direction h = wire_falls b (vertex_on i x) (vertex_on j x) c (record { level = level; cost = far i.horizontal j.horizontal direction })
  where
    far : (p q : Bool) → p ≡ q → distance
        (record { level = i.level; point = if p then record { x = x; y = i.line } else record { x = i.line; y = x } })
        (record { level = j.level; point = if q then record { x = x; y = j.line } else record { x = j.line; y = x } }) ≤ c
    far true true e = omega (arith, ints, h)
    far false false e = omega (arith, ints, h)
    far true false e = absurd (cc)
    far false true e = absurd (cc)

vertex_is : (g : Graph) (p : Place) (i : Interval) → slice_get g.intervals p.interval.0 ≡ Some i → vertex_of g p ≡ vertex_on i p.coord
vertex_is g p i h = ap (λ (o : Option Interval). unwrap_or (option_map (λ (i : Interval). vertex_on i p.coord) o) (record { level = 0; point = record { x = pos 0; y = pos 0 } })) h

turned_via : (via : ℕ) (u v : Vertex) (c : ℕ) → IsViaStep via u v c → IsViaStep via v u c
turned_via via u v c h = record { point = sym h.point; levels = turn h.levels; cost = h.cost }
  where
    turn : (u.level ≡ v.level + 1) ⊎ (v.level ≡ u.level + 1) → (v.level ≡ u.level + 1) ⊎ (u.level ≡ v.level + 1)
    turn (inl e) = inr e
    turn (inr e) = inl e

module _ (b : Bound) (g : Graph) (h : IsFair b.via g) where
  next_falls : (u v : Place) (c : ℕ) → IsNext g u v c → under b (vertex_of g u) ≤ c + under b (vertex_of g v)
  next_falls u v c s =
      let i : Interval = s.from.interval in
      let at : slice_get g.intervals v.interval.0 ≡ Some s.from.interval = subst (λ n. slice_get g.intervals n.0 ≡ Some s.from.interval) s.one_interval s.from.at in
      let factor : factor_at g u.interval.0 ≡ s.from.interval.factor = ap (λ (o : Option Interval). unwrap_or (option_map (λ (i : Interval). i.factor) o) 0) s.from.at in
      let one : 1 ≤ s.from.interval.factor = h.factors u.interval.0 s.from.interval s.from.at in
      rw (vertex_is g u s.from.interval s.from.at, vertex_is g v s.from.interval at)
      (along_falls b s.from.interval u.coord v.coord c (omega (arith, s.near, s.cost, factor, one)))

  bridge_falls : (u v : Vertex) (c : ℕ) → IsViaStep b.via u v c ⊎ (u ≡ v) → under b u ≤ c + under b v
  bridge_falls u v c (inl s) = via_falls b u v c s
  bridge_falls u v c (inr e) = rw e (omega arith)

  bridge_turned : (u v : Vertex) (c : ℕ) → IsViaStep b.via u v c ⊎ (u ≡ v) → under b v ≤ c + under b u
  bridge_turned u v c (inl s) = via_falls b v u c (turned_via b.via u v c s)
  bridge_turned u v c (inr e) = rw e (omega arith)

  point_falls : (k : ℕ) (u v : Place) (c : ℕ) → IsPointWay g k u v c → under b (vertex_of g u) ≤ c + under b (vertex_of g v)
  point_falls k u v c s =
      let fair = h.bridges k s.bridge s.at in
      ⊎_elim
      (λ (e : (u ≡ s.bridge.a) × (v ≡ s.bridge.b)). rw (e.0, e.1, s.cost) (bridge_falls (vertex_of g s.bridge.a) (vertex_of g s.bridge.b) s.bridge.cost fair))
      (λ (e : (u ≡ s.bridge.b) × (v ≡ s.bridge.a)). rw (e.0, e.1, s.cost) (bridge_turned (vertex_of g s.bridge.a) (vertex_of g s.bridge.b) s.bridge.cost fair))
      s.ends

  run_falls : (k : ℕ) (u v : Place) (c : ℕ) → IsRunWay g k u v c → under b (vertex_of g u) ≤ c + under b (vertex_of g v)
  run_falls k u v c s =
      let r = h.joined.runs k s.run s.at in
      let far : unsigned_abs (r.a.line -ℤ r.b.line) ≤ c = omega (arith, h.runs k s.run r.a r.b s.at r.a_at r.b_at, s.cost) in
      ⊎_elim
      (λ (e : (u.interval ≡ s.run.a) × (v.interval ≡ s.run.b)).
      let at : slice_get g.intervals u.interval.0 ≡ Some r.a = subst (λ n. slice_get g.intervals n.0 ≡ Some r.a) (sym e.0) r.a_at in
      let to : slice_get g.intervals v.interval.0 ≡ Some r.b = subst (λ n. slice_get g.intervals n.0 ≡ Some r.b) (sym e.1) r.b_at in
      rw (vertex_is g u r.a at, vertex_is g v r.b to, ← s.straight) (across_falls b r.a r.b u.coord c r.level r.direction far))
      (λ (e : (u.interval ≡ s.run.b) × (v.interval ≡ s.run.a)).
      let at : slice_get g.intervals u.interval.0 ≡ Some r.b = subst (λ n. slice_get g.intervals n.0 ≡ Some r.b) (sym e.0) r.b_at in
      let to : slice_get g.intervals v.interval.0 ≡ Some r.a = subst (λ n. slice_get g.intervals n.0 ≡ Some r.a) (sym e.1) r.a_at in
      let back : unsigned_abs (r.b.line -ℤ r.a.line) ≤ c = omega (arith, ints, far) in
      rw (vertex_is g u r.b at, vertex_is g v r.a to, ← s.straight) (across_falls b r.b r.a u.coord c (sym r.level) (sym r.direction) back))
      s.ends

  consistent : IsConsistent g (λ p. under b (vertex_of g p))
  consistent u v c (inl s) = next_falls u v c s
  consistent u v c (inr (inl s)) = point_falls s.0 u v c s.1
  consistent u v c (inr (inr s)) = run_falls s.0 u v c s.1

pub arenas : (b : Bound) (via : ℕ) → b.via ≡ via → FallsInArenas via (under b)
arenas b via e g h = consistent b g (subst (λ (n : ℕ). IsFair n g) (sym e) h)

-- 0 at the targets
pub zero_at : (targets : List Vertex) (b : Bound) → IsHullOf targets b → (v : Vertex) → Contains targets v → under b v ≡ 0
zero_at targets b h v c =
    let x : outside b.x.lo b.x.hi v.point.x ≡ 0 = inside b.x.lo b.x.hi v.point.x (h.x.holds v c) in
    let y : outside b.y.lo b.y.hi v.point.y ≡ 0 = inside b.y.lo b.y.hi v.point.y (h.y.holds v c) in
    let level : levels_outside b.bottom b.top v.level ≡ 0 = omega (arith, (h.level.holds v c).0, (h.level.holds v c).1) in
    rw (x, y, level) (omega arith)
  where
    inside : (l h z : ℤ) → (l ≤ℤ z) × (z ≤ℤ h) → outside l h z ≡ 0
    inside l h z p = let low : l ≤ℤ z = p.0 in let high : z ≤ℤ h = p.1 in grind (arith, ints)

-- small at each vertex that is near
pub small_at : (targets : List Vertex) (b : Bound) (via : ℕ) → b.via ≡ via → IsHullOf targets b → All IsNear targets → via ≤ 2 ^ 20 → IsSmall (under b)
small_at targets b via e h near few v n =
    let xl : IsNear h.x.low.0 = All-contains IsNear targets h.x.low.0 near h.x.low.1 in
    let xh : IsNear h.x.high.0 = All-contains IsNear targets h.x.high.0 near h.x.high.1 in
    let yl : IsNear h.y.low.0 = All-contains IsNear targets h.y.low.0 near h.y.low.1 in
    let yh : IsNear h.y.high.0 = All-contains IsNear targets h.y.high.0 near h.y.high.1 in
    let bottom : IsNear h.level.low.0 = All-contains IsNear targets h.level.low.0 near h.level.low.1 in
    let x : outside b.x.lo b.x.hi v.point.x ≤ 2 ^ 34 = reach b.x.lo b.x.hi v.point.x (subst (IsWithin (2 ^ 32)) h.x.low.2 xl.point.0) (subst (IsWithin (2 ^ 32)) h.x.high.2 xh.point.0) n.point.0 in
    let y : outside b.y.lo b.y.hi v.point.y ≤ 2 ^ 34 = reach b.y.lo b.y.hi v.point.y (subst (IsWithin (2 ^ 32)) h.y.low.2 yl.point.1) (subst (IsWithin (2 ^ 32)) h.y.high.2 yh.point.1) n.point.1 in
    let level : levels_outside b.bottom b.top v.level ≤ 512 = omega (arith, bottom.level, h.level.low.2, n.level) in
    let cheap : b.via ≤ 2 ^ 20 = omega (arith, e, few) in
    let product : b.via * levels_outside b.bottom b.top v.level ≤ 2 ^ 20 * 512 = mul-le-mul cheap level in
    omega arith
  where
    reach : (l h z : ℤ) → IsWithin (2 ^ 32) l → IsWithin (2 ^ 32) h → IsWithin (2 ^ 32) z → outside l h z ≤ 2 ^ 34
    reach l h z a b c = grind (arith, ints)
