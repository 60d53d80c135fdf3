-- The turns that a walk to the stops needs, and the bound with them.
use Rattle.std.proofs.Common.{◌≡◌, ⊎_elim, ◌⊎◌, inl, inr, ℕ, ◌+◌, ◌*◌, ◌≤◌, ◌≤ℤ◌, ℤ, Bool, true, false, cond, ◌||◌, ◌==◌, nat_lt, List, Contains, refl, sym, subst, ap, ◌∙◌, arith}
use Rattle.std.proofs.lemmas.Bool.Decides.{nat_tests}
use Rattle.std.proofs.lemmas.Int.{ints}
use Rattle.std.proofs.Math.Nat.{mul-le-mul}
use Rattle.rt_base.specs.declared.geometry.Point.{Point}
use Rattle.rt_base.specs.declared.geometry.Span.{Span}
use Rattle.rt_base.specs.declared.walk.Vertex.{Vertex}
use Rattle.future_cost.specs.declared.bound.Bound.{Bound}
use Rattle.future_cost.specs.Laws.{IsViaStep}
use Rattle.future_cost.specs.Turns.{is_off, misses, turns}
use Rattle.future_cost.specs.Under.{under, outside, levels_outside, IsHullOf}
use Rattle.track_graph.specs.declared.design.Design.{Design}
use Rattle.track_graph.specs.Levels.{is_horizontal, line_of}
use Rattle.plain_route.specs.Guided.{to_hull}

abbrev one_or_two : Bool → ℕ
one_or_two only = cond only 2 1

abbrev if_off : Bool → ℕ → ℕ
if_off off t = cond off t 0

abbrev if_among : Bool → ℕ → ℕ
if_among out t = cond out 0 t

-- a vertex that needs turns is on a level of the stops, and needs two only where that is their only one
record Needs (b : Bound) (v : Vertex) (t : ℕ) : Type 0 where
  pub low : b.bottom ≤ v.level
  pub high : v.level ≤ b.top
  pub few : (t ≤ 1) ⊎ ((t ≤ 2) × (b.bottom ≡ b.top))

turn_cases : (b : Bound) (horizontal : Bool) (v : Vertex) → (turns b horizontal v ≡ 0) ⊎ Needs b v (turns b horizontal v)
turn_cases b horizontal v = by_level (nat_lt v.level b.bottom) (nat_lt b.top v.level) refl refl
  where
    no_less : (m n : ℕ) → nat_lt m n ≡ false → n ≤ m
    no_less m n e = grind (arith, nat_tests)

    equal : (m n : ℕ) → (m == n) ≡ true → m ≡ n
    equal m n e = grind (arith, nat_tests)

    by_only : (o : Bool) → (b.bottom == b.top) ≡ o → b.bottom ≤ v.level → v.level ≤ b.top → Needs b v (one_or_two o)
    by_only true e l h = record { low = l; high = h; few = inr (omega arith, equal b.bottom b.top e) }
    by_only false e l h = record { low = l; high = h; few = inl (omega arith) }

    by_line : (m : Bool) → b.bottom ≤ v.level → v.level ≤ b.top → (if_off m (one_or_two (b.bottom == b.top)) ≡ 0) ⊎ Needs b v (if_off m (one_or_two (b.bottom == b.top)))
    by_line true l h = inr (by_only (b.bottom == b.top) refl l h)
    by_line false l h = inl refl

    by_level : (x y : Bool) → nat_lt v.level b.bottom ≡ x → nat_lt b.top v.level ≡ y → (if_among (x || y) (if_off (misses b horizontal v) (one_or_two (b.bottom == b.top))) ≡ 0) ⊎ Needs b v (if_among (x || y) (if_off (misses b horizontal v) (one_or_two (b.bottom == b.top))))
    by_level true y p q = inl refl
    by_level false true p q = inl refl
    by_level false false p q = by_line (misses b horizontal v) (no_less v.level b.bottom p) (no_less b.top v.level q)

pub turns_few : (b : Bound) (horizontal : Bool) (v : Vertex) → turns b horizontal v ≤ 2
turns_few b horizontal v = ⊎_elim
    (λ (e : turns b horizontal v ≡ 0). omega (arith, e))
    (λ (h : Needs b v (turns b horizontal v)). ⊎_elim (λ (one : turns b horizontal v ≤ 1). omega (arith, one)) (λ (two : (turns b horizontal v ≤ 2) × (b.bottom ≡ b.top)). two.0) h.few)
    (turn_cases b horizontal v)

-- to a neighbouring level the levels and turns that are left fall by one at most
levels_fall : (b : Bound) (g h : Bool) (u v : Vertex) → (u.level ≡ v.level + 1) ⊎ (v.level ≡ u.level + 1) → levels_outside b.bottom b.top u.level + turns b g u ≤ 1 + levels_outside b.bottom b.top v.level
levels_fall b g h u v next = ⊎_elim
    (λ (e : turns b g u ≡ 0). ⊎_elim (λ (up : u.level ≡ v.level + 1). omega (arith, e, up)) (λ (down : v.level ≡ u.level + 1). omega (arith, e, down)) next)
    (λ (n : Needs b u (turns b g u)). ⊎_elim
    (λ (one : turns b g u ≤ 1). omega (arith, one, n.low, n.high))
    (λ (two : (turns b g u ≤ 2) × (b.bottom ≡ b.top)). let t = two.0 in let same = two.1 in ⊎_elim (λ (up : u.level ≡ v.level + 1). omega (arith, t, same, n.low, n.high, up)) (λ (down : v.level ≡ u.level + 1). omega (arith, t, same, n.low, n.high, down)) next)
    n.few)
    (turn_cases b g u)

-- over a via the bound falls by the via's cost at most
pub via_falls : (d : Design) (b : Bound) (u v : Vertex) (c : ℕ) → b.via ≡ d.options.via → IsViaStep d.options.via u v c → to_hull d b u ≤ c + to_hull d b v
via_falls d b u v c same step =
    let via : ℕ = d.options.via in
    let lu : ℕ = levels_outside b.bottom b.top u.level in
    let lv : ℕ = levels_outside b.bottom b.top v.level in
    let tu : ℕ = turns b (is_horizontal d.tech u.level) u in
    let tv : ℕ = turns b (is_horizontal d.tech v.level) v in
    let fall : lu + tu ≤ 1 + lv = levels_fall b (is_horizontal d.tech u.level) (is_horizontal d.tech v.level) u v step.levels in
    let product : via * (lu + tu) ≤ via * (1 + lv) = mul-le-mul (omega arith) fall in
    let x : outside b.x.lo b.x.hi u.point.x ≡ outside b.x.lo b.x.hi v.point.x = ap (λ (p : Point). outside b.x.lo b.x.hi p.x) step.point in
    let y : outside b.y.lo b.y.hi u.point.y ≡ outside b.y.lo b.y.hi v.point.y = ap (λ (p : Point). outside b.y.lo b.y.hi p.y) step.point in
    subst (λ (k : ℕ). outside b.x.lo b.x.hi u.point.x + outside b.y.lo b.y.hi u.point.y + k * lu + via * tu ≤ c + (outside b.x.lo b.x.hi v.point.x + outside b.y.lo b.y.hi v.point.y + k * lv + via * tv)) (sym same)
    (sums _ _ _ _ via lu tu lv tv c x y product step.cost)
  where
    sums : (xu yu xv yv via lu tu lv tv c : ℕ) → xu ≡ xv → yu ≡ yv → via * (lu + tu) ≤ via * (1 + lv) → via ≤ c → xu + yu + via * lu + via * tu ≤ c + (xv + yv + via * lv + via * tv)
    sums xu yu xv yv via lu tu lv tv c p q r s = grind arith

same_turns : (b : Bound) (horizontal : Bool) (u v : Vertex) → u.level ≡ v.level → cond horizontal u.point.y u.point.x ≡ cond horizontal v.point.y v.point.x → turns b horizontal u ≡ turns b horizontal v
same_turns b true u v level line =
    ap (λ (l : ℕ). if_among (nat_lt l b.bottom || nat_lt b.top l) (if_off (is_off b.y u.point.y) (one_or_two (b.bottom == b.top)))) level
    ∙ ap (λ (z : ℤ). if_among (nat_lt v.level b.bottom || nat_lt b.top v.level) (if_off (is_off b.y z) (one_or_two (b.bottom == b.top)))) line
same_turns b false u v level line =
    ap (λ (l : ℕ). if_among (nat_lt l b.bottom || nat_lt b.top l) (if_off (is_off b.x u.point.x) (one_or_two (b.bottom == b.top)))) level
    ∙ ap (λ (z : ℤ). if_among (nat_lt v.level b.bottom || nat_lt b.top v.level) (if_off (is_off b.x z) (one_or_two (b.bottom == b.top)))) line

-- along a track the turns stay
pub along_falls : (d : Design) (b : Bound) (u v : Vertex) (c : ℕ) → u.level ≡ v.level → line_of d.tech u.level u.point ≡ line_of d.tech u.level v.point → under b u ≤ c + under b v → to_hull d b u ≤ c + to_hull d b v
along_falls d b u v c level line fall =
    let same : turns b (is_horizontal d.tech u.level) u ≡ turns b (is_horizontal d.tech v.level) v = same_turns b (is_horizontal d.tech u.level) u v level line ∙ ap (λ (l : ℕ). turns b (is_horizontal d.tech l) v) level in
    let product : d.options.via * turns b (is_horizontal d.tech u.level) u ≡ d.options.via * turns b (is_horizontal d.tech v.level) v = ap (λ (t : ℕ). d.options.via * t) same in
    omega (arith, fall, product)

-- at a stop nothing is left
pub at_stop : (d : Design) (b : Bound) (v : Vertex) (cost : ℕ) → under b v ≡ 0 → turns b (is_horizontal d.tech v.level) v ≡ 0 → to_hull d b v ≤ cost
at_stop d b v cost zero none =
    let product : d.options.via * turns b (is_horizontal d.tech v.level) v ≡ d.options.via * 0 = ap (λ (t : ℕ). d.options.via * t) none in
    omega (arith, zero, product)

-- a target needs no turns
pub no_turns : (targets : List Vertex) (b : Bound) (horizontal : Bool) (v : Vertex) → IsHullOf targets b → Contains targets v → turns b horizontal v ≡ 0
no_turns targets b horizontal v hull c =
    let x : is_off b.x v.point.x ≡ false = inside b.x v.point.x (hull.x.holds v c) in
    let y : is_off b.y v.point.y ≡ false = inside b.y v.point.y (hull.y.holds v c) in
    by_direction horizontal x y
  where
    inside : (s : Span) (z : ℤ) → (s.lo ≤ℤ z) × (z ≤ℤ s.hi) → is_off s z ≡ false
    inside s z p = let a : s.lo ≤ℤ z = p.0 in let h : z ≤ℤ s.hi = p.1 in grind (arith, ints)

    none : (o : Bool) → if_among o 0 ≡ 0
    none true = refl
    none false = refl

    by_direction : (h : Bool) → is_off b.x v.point.x ≡ false → is_off b.y v.point.y ≡ false → turns b h v ≡ 0
    by_direction true x y = ap (λ (m : Bool). if_among (nat_lt v.level b.bottom || nat_lt b.top v.level) (if_off m (one_or_two (b.bottom == b.top)))) y ∙ none (nat_lt v.level b.bottom || nat_lt b.top v.level)
    by_direction false x y = ap (λ (m : Bool). if_among (nat_lt v.level b.bottom || nat_lt b.top v.level) (if_off m (one_or_two (b.bottom == b.top)))) x ∙ none (nat_lt v.level b.bottom || nat_lt b.top v.level)
