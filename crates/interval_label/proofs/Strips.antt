use Rattle.std.proofs.Common.{◌≡◌, ◌≢◌, ◌⊎◌, inl, inr, ℕ, ◌+◌, add-zero, ◌*◌, ◌<◌, ◌≤◌, ℤ, ◌≤ℤ◌, ◌<ℤ◌, sym, refl, ap, subst, List, [], ◌∷◌, Contains, arith, ⊎_elim}
use Rattle.std.proofs.lemmas.Int.{ints}
use Rattle.std.proofs.lemmas.Bool.{cases_lt}
use Rattle.std.proofs.Math.Nat.{mul-le-mul_right}
use Rattle.label_arena.specs.declared.place.Place.{Place}
use Rattle.label_arena.specs.declared.place.IntervalNo.{IntervalNo}
use Rattle.label_arena.specs.Lists.{Graph}
use Rattle.label_arena.specs.Plain.{gap, factor_at, slide, IsInside, IsRunWay, IsPointWay, IsStep, Moves, IsWalk, end_of, cost_of, Reaches}
use Rattle.interval_label.specs.Task.{Stop}
use Rattle.interval_label.proofs.Sliding.{at}

pub cases_z : (a b : ℤ) → (a ≡ b) ⊎ (a ≢ b)
cases_z a b = ⊎_elim (λ (l : a <ℤ b). inr (omega (arith, ints, l))) (λ (l : b ≤ℤ a). ⊎_elim (λ (m : b <ℤ a). inr (omega (arith, ints, m))) (λ (m : a ≤ℤ b). inl (omega (arith, ints, l, m))) (order b a)) (order a b)
  where
    order : (a b : ℤ) → (a <ℤ b) ⊎ (b ≤ℤ a)
    order a b = search (arith, ints)

flip : {u v a b : IntervalNo} → ((u ≡ a) × (v ≡ b)) ⊎ ((u ≡ b) × (v ≡ a)) → ((v ≡ a) × (u ≡ b)) ⊎ ((v ≡ b) × (u ≡ a))
flip h = ⊎_elim (λ d. inr (d.1, d.0)) (λ d. inl (d.1, d.0)) h

-- Q says that a place is met at a cost. It is carried on between marks; so each walk that ends at a mark is met.
module _ (g : Graph) (M : Place → Type 0) (Q : Place → ℕ → Type 0) (more : (v : Place) (c d : ℕ) → Q v c → c ≤ d → Q v d) (slides : (u v : Place) (c : ℕ) → M u → M v → IsInside g u → IsInside g v → u.interval ≡ v.interval → Q u c → Q v (c + slide g u v.coord)) (runs : (k : ℕ) (u v : Place) (c e : ℕ) → M u → Q u c → IsRunWay g k u v e → Q v (c + e)) (m_run : (k : ℕ) (u v : Place) (e : ℕ) → IsRunWay g k u v e → M u → M v) (run_in : (k : ℕ) (u v : Place) (e : ℕ) → IsRunWay g k u v e → IsInside g v) (ends : (k : ℕ) (J K : IntervalNo) (y : ℤ) (e : ℕ) (r : IsRunWay g k (at J y) (at K y) e) → M (at J r.run.span.lo) × M (at J r.run.span.hi) × M (at K r.run.span.lo) × M (at K r.run.span.hi)) where
  splitUp : (z y t : ℤ) → (y <ℤ t) → gap y t ≡ 1 → (z ≤ℤ t) → (z ≡ t) ⊎ (z ≤ℤ y)
  splitUp z y t h one b = ⊎_elim (λ (e : z ≡ t). inl e) (λ (n : z ≢ t). inr (omega (arith, ints, h, one, b, n))) (cases_z z t)

  nextUp : (z y t : ℤ) → (y <ℤ t) → gap y t ≡ 1 → (y ≤ℤ z) → (z ≡ y) ⊎ (t ≤ℤ z)
  nextUp z y t h one b = ⊎_elim (λ (e : z ≡ y). inl e) (λ (n : z ≢ y). inr (omega (arith, ints, h, one, b, n))) (cases_z z y)

  ordUp : (a b : ℤ) → (a ≤ℤ b) ⊎ (b <ℤ a)
  ordUp a b = search (arith, ints)

  -- entered from a mark at `start`, with no mark since
  pub record StripUp (J : IntervalNo) (y : ℤ) (w : ℕ) : Type 0 where
    pub base : ℕ
    pub slope : ℕ
    pub start : ℤ
    pub begins : (start <ℤ y)
    pub mark : M (at J start)
    pub start_in : IsInside g (at J start)
    pub reached : Q (at J start) base
    pub gentle : slope ≤ factor_at g J.0
    pub sum : base + slope * gap start y ≤ w
    pub clear : (z : ℤ) → (start <ℤ z) → (z ≤ℤ y) → M (at J z) → ⊥
    pub onward : (m : ℤ) → (y <ℤ m) → IsInside g (at J m) → M (at J m) → ((z : ℤ) → (y ≤ℤ z) → (z <ℤ m) → M (at J z) → ⊥) → Q (at J m) (w + slope * gap y m)

  betweenUp : (f : ℕ) (x y m : ℤ) → (x <ℤ y) → (y <ℤ m) → f * gap x m ≡ f * gap x y + f * gap y m
  betweenUp f x y m h k = let e : gap x m ≡ gap x y + gap y m = omega (arith, ints) in omega (arith, ap (λ n. f * n) e)

  enterUp : (J : IntervalNo) (x y : ℤ) (c : ℕ) → M (at J x) → IsInside g (at J x) → Q (at J x) c → (x <ℤ y) → gap x y ≡ 1 → (M (at J y) → ⊥) → StripUp J y (c + factor_at g J.0)
  enterUp J x y c mx ix q h one ny = record {
    base = c;
    slope = factor_at g J.0;
    start = x;
    begins = h;
    mark = mx;
    start_in = ix;
    reached = q;
    gentle = omega arith;
    sum = omega (arith, ap (λ n. factor_at g J.0 * n) one);
    clear = λ z a b m. (let e : z ≡ y = omega (arith, ints, one, a, b, h) in ny (subst (λ (t : ℤ). M (at J t)) e m));
    onward = λ m a i mm none. more (at J m) (c + factor_at g J.0 * gap x m) _ (slides (at J x) (at J m) c mx mm ix i refl q) (omega (arith, betweenUp (factor_at g J.0) x y m h a, ap (λ n. factor_at g J.0 * n) one));
  }

  forwardUp : (J : IntervalNo) (y t : ℤ) (w : ℕ) → StripUp J y w → (y <ℤ t) → gap y t ≡ 1 → (M (at J y) → ⊥) → (M (at J t) → ⊥) → StripUp J t (w + factor_at g J.0)
  forwardUp J y t w s h one ny nt = record {
    base = s.base;
    slope = s.slope;
    start = s.start;
    begins = (let b : (s.start <ℤ y) = s.begins in omega (arith, ints, b, h));
    mark = s.mark;
    start_in = s.start_in;
    reached = s.reached;
    gentle = s.gentle;
    sum = omega (arith, s.sum, s.gentle, betweenUp s.slope s.start y t s.begins h, ap (λ n. s.slope * n) one);
    clear = λ z a b m. ⊎_elim
        (λ (e : z ≡ t). nt (subst (λ (x : ℤ). M (at J x)) e m))
        (λ (l : (z ≤ℤ y)). s.clear z a l m)
        (splitUp z y t h one b);
    onward = λ m a i mm none.
        let hm : (y <ℤ m) = omega (arith, ints, h, a) in
        let q : Q (at J m) (w + s.slope * gap y m) = s.onward m hm i mm (λ z b d mz. ⊎_elim
        (λ (e : z ≡ y). ny (subst (λ (x : ℤ). M (at J x)) e mz))
        (λ (l : (t ≤ℤ z)). none z l d mz)
        (nextUp z y t h one b)) in
        more (at J m) _ _ q (omega (arith, s.gentle, betweenUp s.slope y t m h a, ap (λ n. s.slope * n) one));
  }

  arriveUp : (J : IntervalNo) (y t : ℤ) (w : ℕ) → StripUp J y w → (y <ℤ t) → gap y t ≡ 1 → (M (at J y) → ⊥) → M (at J t) → IsInside g (at J t) → Q (at J t) (w + factor_at g J.0)
  arriveUp J y t w s h one ny mt it =
      more (at J t) _ _ (s.onward t h it mt (λ z b d mz. (let e : z ≡ y = omega (arith, ints, one, h, b, d) in ny (subst (λ (x : ℤ). M (at J x)) e mz)))) (omega (arith, s.gentle, ap (λ n. s.slope * n) one))

  backUp : (J : IntervalNo) (y t : ℤ) (w : ℕ) → StripUp J y w → (t <ℤ y) → gap y t ≡ 1 → (M (at J y) → ⊥) → (M (at J t) → ⊥) → StripUp J t (w + factor_at g J.0)
  backUp J y t w s h one ny nt =
      let apart : s.start ≢ t = (λ e. nt (subst (λ (x : ℤ). M (at J x)) e s.mark)) in
      let b : (s.start <ℤ y) = s.begins in
      let bt : (s.start <ℤ t) = omega (arith, ints, b, h, one, apart) in
      let ot : gap t y ≡ 1 = omega (arith, ints, one) in
      record {
        base = s.base;
        slope = s.slope;
        start = s.start;
        begins = bt;
        mark = s.mark;
        start_in = s.start_in;
        reached = s.reached;
        gentle = s.gentle;
        sum = omega (arith, s.sum, betweenUp s.slope s.start t y bt h);
        clear = λ z a c m. s.clear z a (omega (arith, ints, c, h)) m;
        onward = λ m a i mm none.
            let other : y ≢ m = (λ e. ny (subst (λ (x : ℤ). M (at J x)) (sym e) mm)) in
            let hm : (y <ℤ m) = omega (arith, ints, a, h, one, other) in
            let q : Q (at J m) (w + s.slope * gap y m) = s.onward m hm i mm (λ z c d mz. none z (omega (arith, ints, c, h)) d mz) in
            more (at J m) _ _ q (omega (arith, betweenUp s.slope t y m h hm));
      }

  returnUp : (J : IntervalNo) (y t : ℤ) (w : ℕ) → StripUp J y w → (t <ℤ y) → gap y t ≡ 1 → M (at J t) → Q (at J t) (w + factor_at g J.0)
  returnUp J y t w s h one mt =
      let b : (s.start <ℤ y) = s.begins in
      let e : s.start ≡ t = ⊎_elim (λ (e : s.start ≡ t). e) (λ (n : s.start ≢ t). absurd (s.clear t (omega (arith, ints, b, h, one, n)) (omega (arith, ints, h)) mt)) (cases_z s.start t) in
      more (at J t) s.base _ (subst (λ (x : ℤ). Q (at J x) s.base) e s.reached) (omega (arith, s.sum))

  crossUp : (k : ℕ) (J K : IntervalNo) (y : ℤ) (w e : ℕ) → StripUp J y w → IsRunWay g k (at J y) (at K y) e → (M (at J y) → ⊥) → StripUp K y (w + e)
  crossUp k J K y w e s r ny =
      let b : (s.start <ℤ y) = s.begins in
      let rl : r.run.span.lo ≤ℤ y = r.low in
      let rh : y ≤ℤ r.run.span.hi = r.high in
      -- the span holds the start
      let held : (r.run.span.lo ≤ℤ s.start) = ⊎_elim (λ (l : (r.run.span.lo ≤ℤ s.start)). l) (λ (l : (s.start <ℤ r.run.span.lo)). absurd (s.clear r.run.span.lo l rl (ends k J K y e r).0)) (ordUp r.run.span.lo s.start) in
      let way : (z : ℤ) → r.run.span.lo ≤ℤ z → z ≤ℤ r.run.span.hi → IsRunWay g k (at J z) (at K z) e = (λ z l h. record { run = r.run; at = r.at; ends = r.ends; straight = refl; low = l; high = h; cost = r.cost }) in
      let wayb : (z : ℤ) → r.run.span.lo ≤ℤ z → z ≤ℤ r.run.span.hi → IsRunWay g k (at K z) (at J z) e = (λ z l h. record { run = r.run; at = r.at; ends = flip r.ends; straight = refl; low = l; high = h; cost = r.cost }) in
      let sl : r.run.span.lo ≤ℤ s.start = omega (arith, ints, held, b, rl, rh) in
      let sh : s.start ≤ℤ r.run.span.hi = omega (arith, ints, held, b, rl, rh) in
      let there : Q (at K s.start) (s.base + e) = runs k (at J s.start) (at K s.start) s.base e s.mark s.reached (way s.start sl sh) in
      let mk : M (at K s.start) = m_run k (at J s.start) (at K s.start) e (way s.start sl sh) s.mark in
      let ik : IsInside g (at K s.start) = run_in k (at J s.start) (at K s.start) e (way s.start sl sh) in
      let clear : (z : ℤ) → (s.start <ℤ z) → (z ≤ℤ y) → M (at K z) → ⊥ = (λ z a c m.
      let zl : r.run.span.lo ≤ℤ z = omega (arith, ints, a, c, sl, sh, rl, rh) in
      let zh : z ≤ℤ r.run.span.hi = omega (arith, ints, a, c, sl, sh, rl, rh) in
      s.clear z a c (m_run k (at K z) (at J z) e (wayb z zl zh) m)) in
      ⊎_elim
      (λ (steep : factor_at g K.0 < s.slope). record {
        base = s.base + e;
        slope = factor_at g K.0;
        start = s.start;
        begins = b;
        mark = mk;
        start_in = ik;
        reached = there;
        gentle = omega arith;
        sum = (let le : factor_at g K.0 * gap s.start y ≤ s.slope * gap s.start y = mul-le-mul_right (gap s.start y) (omega (arith, steep)) in omega (arith, s.sum, le));
        clear = clear;
        onward = λ m a i mm none. (let le : factor_at g K.0 * gap s.start y ≤ s.slope * gap s.start y = mul-le-mul_right (gap s.start y) (omega (arith, steep)) in
            more (at K m) _ _ (slides (at K s.start) (at K m) (s.base + e) mk mm ik i refl there) (omega (arith, s.sum, le, betweenUp (factor_at g K.0) s.start y m b a)));
      })
      (λ (gentle : s.slope ≤ factor_at g K.0). record {
        base = s.base + e;
        slope = s.slope;
        start = s.start;
        begins = b;
        mark = mk;
        start_in = ik;
        reached = there;
        gentle = gentle;
        sum = omega (arith, s.sum);
        clear = clear;
        onward = λ m a i mm none.
            let within : (m ≤ℤ r.run.span.hi) = ⊎_elim (λ (l : (m ≤ℤ r.run.span.hi)). l) (λ (l : (r.run.span.hi <ℤ m)). absurd (none r.run.span.hi rh l (ends k J K y e r).3)) (ordUp m r.run.span.hi) in
            let ml : r.run.span.lo ≤ℤ m = omega (arith, ints, a, within, rl, rh) in
            let mh : m ≤ℤ r.run.span.hi = omega (arith, ints, a, within, rl, rh) in
            let mj : M (at J m) = m_run k (at K m) (at J m) e (wayb m ml mh) mm in
            let ij : IsInside g (at J m) = run_in k (at K m) (at J m) e (wayb m ml mh) in
            let q : Q (at J m) (w + s.slope * gap y m) = s.onward m a ij mj (λ z c d mz.
            let zl : r.run.span.lo ≤ℤ z = omega (arith, ints, c, d, ml, mh, rl, rh) in
            let zh : z ≤ℤ r.run.span.hi = omega (arith, ints, c, d, ml, mh, rl, rh) in
            none z c d (m_run k (at J z) (at K z) e (way z zl zh) mz)) in
            more (at K m) _ _ (runs k (at J m) (at K m) _ e mj q (way m ml mh)) (omega arith);
      })
      (cases_lt (factor_at g K.0) s.slope)

  splitDown : (z y t : ℤ) → (t <ℤ y) → gap y t ≡ 1 → (t ≤ℤ z) → (z ≡ t) ⊎ (y ≤ℤ z)
  splitDown z y t h one b = ⊎_elim (λ (e : z ≡ t). inl e) (λ (n : z ≢ t). inr (omega (arith, ints, h, one, b, n))) (cases_z z t)

  nextDown : (z y t : ℤ) → (t <ℤ y) → gap y t ≡ 1 → (z ≤ℤ y) → (z ≡ y) ⊎ (z ≤ℤ t)
  nextDown z y t h one b = ⊎_elim (λ (e : z ≡ y). inl e) (λ (n : z ≢ y). inr (omega (arith, ints, h, one, b, n))) (cases_z z y)

  ordDown : (a b : ℤ) → (b ≤ℤ a) ⊎ (a <ℤ b)
  ordDown a b = search (arith, ints)

  -- entered from a mark at `start`, with no mark since
  pub record StripDown (J : IntervalNo) (y : ℤ) (w : ℕ) : Type 0 where
    pub base : ℕ
    pub slope : ℕ
    pub start : ℤ
    pub begins : (y <ℤ start)
    pub mark : M (at J start)
    pub start_in : IsInside g (at J start)
    pub reached : Q (at J start) base
    pub gentle : slope ≤ factor_at g J.0
    pub sum : base + slope * gap start y ≤ w
    pub clear : (z : ℤ) → (z <ℤ start) → (y ≤ℤ z) → M (at J z) → ⊥
    pub onward : (m : ℤ) → (m <ℤ y) → IsInside g (at J m) → M (at J m) → ((z : ℤ) → (z ≤ℤ y) → (m <ℤ z) → M (at J z) → ⊥) → Q (at J m) (w + slope * gap y m)

  betweenDown : (f : ℕ) (x y m : ℤ) → (y <ℤ x) → (m <ℤ y) → f * gap x m ≡ f * gap x y + f * gap y m
  betweenDown f x y m h k = let e : gap x m ≡ gap x y + gap y m = omega (arith, ints) in omega (arith, ap (λ n. f * n) e)

  enterDown : (J : IntervalNo) (x y : ℤ) (c : ℕ) → M (at J x) → IsInside g (at J x) → Q (at J x) c → (y <ℤ x) → gap x y ≡ 1 → (M (at J y) → ⊥) → StripDown J y (c + factor_at g J.0)
  enterDown J x y c mx ix q h one ny = record {
    base = c;
    slope = factor_at g J.0;
    start = x;
    begins = h;
    mark = mx;
    start_in = ix;
    reached = q;
    gentle = omega arith;
    sum = omega (arith, ap (λ n. factor_at g J.0 * n) one);
    clear = λ z a b m. (let e : z ≡ y = omega (arith, ints, one, a, b, h) in ny (subst (λ (t : ℤ). M (at J t)) e m));
    onward = λ m a i mm none. more (at J m) (c + factor_at g J.0 * gap x m) _ (slides (at J x) (at J m) c mx mm ix i refl q) (omega (arith, betweenDown (factor_at g J.0) x y m h a, ap (λ n. factor_at g J.0 * n) one));
  }

  forwardDown : (J : IntervalNo) (y t : ℤ) (w : ℕ) → StripDown J y w → (t <ℤ y) → gap y t ≡ 1 → (M (at J y) → ⊥) → (M (at J t) → ⊥) → StripDown J t (w + factor_at g J.0)
  forwardDown J y t w s h one ny nt = record {
    base = s.base;
    slope = s.slope;
    start = s.start;
    begins = (let b : (y <ℤ s.start) = s.begins in omega (arith, ints, b, h));
    mark = s.mark;
    start_in = s.start_in;
    reached = s.reached;
    gentle = s.gentle;
    sum = omega (arith, s.sum, s.gentle, betweenDown s.slope s.start y t s.begins h, ap (λ n. s.slope * n) one);
    clear = λ z a b m. ⊎_elim
        (λ (e : z ≡ t). nt (subst (λ (x : ℤ). M (at J x)) e m))
        (λ (l : (y ≤ℤ z)). s.clear z a l m)
        (splitDown z y t h one b);
    onward = λ m a i mm none.
        let hm : (m <ℤ y) = omega (arith, ints, h, a) in
        let q : Q (at J m) (w + s.slope * gap y m) = s.onward m hm i mm (λ z b d mz. ⊎_elim
        (λ (e : z ≡ y). ny (subst (λ (x : ℤ). M (at J x)) e mz))
        (λ (l : (z ≤ℤ t)). none z l d mz)
        (nextDown z y t h one b)) in
        more (at J m) _ _ q (omega (arith, s.gentle, betweenDown s.slope y t m h a, ap (λ n. s.slope * n) one));
  }

  arriveDown : (J : IntervalNo) (y t : ℤ) (w : ℕ) → StripDown J y w → (t <ℤ y) → gap y t ≡ 1 → (M (at J y) → ⊥) → M (at J t) → IsInside g (at J t) → Q (at J t) (w + factor_at g J.0)
  arriveDown J y t w s h one ny mt it =
      more (at J t) _ _ (s.onward t h it mt (λ z b d mz. (let e : z ≡ y = omega (arith, ints, one, h, b, d) in ny (subst (λ (x : ℤ). M (at J x)) e mz)))) (omega (arith, s.gentle, ap (λ n. s.slope * n) one))

  backDown : (J : IntervalNo) (y t : ℤ) (w : ℕ) → StripDown J y w → (y <ℤ t) → gap y t ≡ 1 → (M (at J y) → ⊥) → (M (at J t) → ⊥) → StripDown J t (w + factor_at g J.0)
  backDown J y t w s h one ny nt =
      let apart : s.start ≢ t = (λ e. nt (subst (λ (x : ℤ). M (at J x)) e s.mark)) in
      let b : (y <ℤ s.start) = s.begins in
      let bt : (t <ℤ s.start) = omega (arith, ints, b, h, one, apart) in
      let ot : gap t y ≡ 1 = omega (arith, ints, one) in
      record {
        base = s.base;
        slope = s.slope;
        start = s.start;
        begins = bt;
        mark = s.mark;
        start_in = s.start_in;
        reached = s.reached;
        gentle = s.gentle;
        sum = omega (arith, s.sum, betweenDown s.slope s.start t y bt h);
        clear = λ z a c m. s.clear z a (omega (arith, ints, c, h)) m;
        onward = λ m a i mm none.
            let other : y ≢ m = (λ e. ny (subst (λ (x : ℤ). M (at J x)) (sym e) mm)) in
            let hm : (m <ℤ y) = omega (arith, ints, a, h, one, other) in
            let q : Q (at J m) (w + s.slope * gap y m) = s.onward m hm i mm (λ z c d mz. none z (omega (arith, ints, c, h)) d mz) in
            more (at J m) _ _ q (omega (arith, betweenDown s.slope t y m h hm));
      }

  returnDown : (J : IntervalNo) (y t : ℤ) (w : ℕ) → StripDown J y w → (y <ℤ t) → gap y t ≡ 1 → M (at J t) → Q (at J t) (w + factor_at g J.0)
  returnDown J y t w s h one mt =
      let b : (y <ℤ s.start) = s.begins in
      let e : s.start ≡ t = ⊎_elim (λ (e : s.start ≡ t). e) (λ (n : s.start ≢ t). absurd (s.clear t (omega (arith, ints, b, h, one, n)) (omega (arith, ints, h)) mt)) (cases_z s.start t) in
      more (at J t) s.base _ (subst (λ (x : ℤ). Q (at J x) s.base) e s.reached) (omega (arith, s.sum))

  crossDown : (k : ℕ) (J K : IntervalNo) (y : ℤ) (w e : ℕ) → StripDown J y w → IsRunWay g k (at J y) (at K y) e → (M (at J y) → ⊥) → StripDown K y (w + e)
  crossDown k J K y w e s r ny =
      let b : (y <ℤ s.start) = s.begins in
      let rl : r.run.span.lo ≤ℤ y = r.low in
      let rh : y ≤ℤ r.run.span.hi = r.high in
      -- the span holds the start
      let held : (s.start ≤ℤ r.run.span.hi) = ⊎_elim (λ (l : (s.start ≤ℤ r.run.span.hi)). l) (λ (l : (r.run.span.hi <ℤ s.start)). absurd (s.clear r.run.span.hi l rh (ends k J K y e r).1)) (ordDown r.run.span.hi s.start) in
      let way : (z : ℤ) → r.run.span.lo ≤ℤ z → z ≤ℤ r.run.span.hi → IsRunWay g k (at J z) (at K z) e = (λ z l h. record { run = r.run; at = r.at; ends = r.ends; straight = refl; low = l; high = h; cost = r.cost }) in
      let wayb : (z : ℤ) → r.run.span.lo ≤ℤ z → z ≤ℤ r.run.span.hi → IsRunWay g k (at K z) (at J z) e = (λ z l h. record { run = r.run; at = r.at; ends = flip r.ends; straight = refl; low = l; high = h; cost = r.cost }) in
      let sl : r.run.span.lo ≤ℤ s.start = omega (arith, ints, held, b, rl, rh) in
      let sh : s.start ≤ℤ r.run.span.hi = omega (arith, ints, held, b, rl, rh) in
      let there : Q (at K s.start) (s.base + e) = runs k (at J s.start) (at K s.start) s.base e s.mark s.reached (way s.start sl sh) in
      let mk : M (at K s.start) = m_run k (at J s.start) (at K s.start) e (way s.start sl sh) s.mark in
      let ik : IsInside g (at K s.start) = run_in k (at J s.start) (at K s.start) e (way s.start sl sh) in
      let clear : (z : ℤ) → (z <ℤ s.start) → (y ≤ℤ z) → M (at K z) → ⊥ = (λ z a c m.
      let zl : r.run.span.lo ≤ℤ z = omega (arith, ints, a, c, sl, sh, rl, rh) in
      let zh : z ≤ℤ r.run.span.hi = omega (arith, ints, a, c, sl, sh, rl, rh) in
      s.clear z a c (m_run k (at K z) (at J z) e (wayb z zl zh) m)) in
      ⊎_elim
      (λ (steep : factor_at g K.0 < s.slope). record {
        base = s.base + e;
        slope = factor_at g K.0;
        start = s.start;
        begins = b;
        mark = mk;
        start_in = ik;
        reached = there;
        gentle = omega arith;
        sum = (let le : factor_at g K.0 * gap s.start y ≤ s.slope * gap s.start y = mul-le-mul_right (gap s.start y) (omega (arith, steep)) in omega (arith, s.sum, le));
        clear = clear;
        onward = λ m a i mm none. (let le : factor_at g K.0 * gap s.start y ≤ s.slope * gap s.start y = mul-le-mul_right (gap s.start y) (omega (arith, steep)) in
            more (at K m) _ _ (slides (at K s.start) (at K m) (s.base + e) mk mm ik i refl there) (omega (arith, s.sum, le, betweenDown (factor_at g K.0) s.start y m b a)));
      })
      (λ (gentle : s.slope ≤ factor_at g K.0). record {
        base = s.base + e;
        slope = s.slope;
        start = s.start;
        begins = b;
        mark = mk;
        start_in = ik;
        reached = there;
        gentle = gentle;
        sum = omega (arith, s.sum);
        clear = clear;
        onward = λ m a i mm none.
            let within : (r.run.span.lo ≤ℤ m) = ⊎_elim (λ (l : (r.run.span.lo ≤ℤ m)). l) (λ (l : (m <ℤ r.run.span.lo)). absurd (none r.run.span.lo rl l (ends k J K y e r).2)) (ordDown m r.run.span.lo) in
            let ml : r.run.span.lo ≤ℤ m = omega (arith, ints, a, within, rl, rh) in
            let mh : m ≤ℤ r.run.span.hi = omega (arith, ints, a, within, rl, rh) in
            let mj : M (at J m) = m_run k (at K m) (at J m) e (wayb m ml mh) mm in
            let ij : IsInside g (at J m) = run_in k (at K m) (at J m) e (wayb m ml mh) in
            let q : Q (at J m) (w + s.slope * gap y m) = s.onward m a ij mj (λ z c d mz.
            let zl : r.run.span.lo ≤ℤ z = omega (arith, ints, c, d, ml, mh, rl, rh) in
            let zh : z ≤ℤ r.run.span.hi = omega (arith, ints, c, d, ml, mh, rl, rh) in
            none z c d (m_run k (at J z) (at K z) e (way z zl zh) mz)) in
            more (at K m) _ _ (runs k (at J m) (at K m) _ e mj q (way m ml mh)) (omega arith);
      })
      (cases_lt (factor_at g K.0) s.slope)

  -- where a walk that costs w has come
  At : IntervalNo → ℤ → ℕ → Type 0
  At J x w = (M (at J x) × Q (at J x) w) ⊎ ((M (at J x) → ⊥) × (StripUp J x w ⊎ StripDown J x w))

  module _ (decide : (v : Place) → M v ⊎ (M v → ⊥)) where
    at_next : (J : IntervalNo) (x y : ℤ) (w : ℕ) → IsInside g (at J x) → IsInside g (at J y) → gap x y ≡ 1 → At J x w → At J y (w + factor_at g J.0)
    unfolding At
    at_next J x y w ix iy one h = ⊎_elim
        (λ (my : M (at J y)). inl (
          my,
          ⊎_elim
              (λ (a : M (at J x) × Q (at J x) w). more (at J y) _ _ (slides (at J x) (at J y) w a.0 my ix iy refl a.1) (omega (arith, ap (λ n. factor_at g J.0 * n) one)))
              (λ (a : (M (at J x) → ⊥) × (StripUp J x w ⊎ StripDown J x w)). ⊎_elim
              (λ (l : x <ℤ y). ⊎_elim (λ (s : StripUp J x w). arriveUp J x y w s l one a.0 my iy) (λ (s : StripDown J x w). returnDown J x y w s l one my) a.1)
              (λ (l : y <ℤ x). ⊎_elim (λ (s : StripUp J x w). returnUp J x y w s l one my) (λ (s : StripDown J x w). arriveDown J x y w s l one a.0 my iy) a.1)
              (sides x y one))
              h,
        ))
        (λ (ny : M (at J y) → ⊥). inr (
          ny,
          ⊎_elim
              (λ (a : M (at J x) × Q (at J x) w). ⊎_elim
              (λ (l : x <ℤ y). inl (enterUp J x y w a.0 ix a.1 l one ny))
              (λ (l : y <ℤ x). inr (enterDown J x y w a.0 ix a.1 l one ny))
              (sides x y one))
              (λ (a : (M (at J x) → ⊥) × (StripUp J x w ⊎ StripDown J x w)). ⊎_elim
              (λ (l : x <ℤ y). ⊎_elim (λ (s : StripUp J x w). inl (forwardUp J x y w s l one a.0 ny)) (λ (s : StripDown J x w). inr (backDown J x y w s l one a.0 ny)) a.1)
              (λ (l : y <ℤ x). ⊎_elim (λ (s : StripUp J x w). inl (backUp J x y w s l one a.0 ny)) (λ (s : StripDown J x w). inr (forwardDown J x y w s l one a.0 ny)) a.1)
              (sides x y one))
              h,
        ))
        (decide (at J y))
      where
        sides : (x y : ℤ) → gap x y ≡ 1 → (x <ℤ y) ⊎ (y <ℤ x)
        sides x y one = ⊎_elim (λ (l : x ≤ℤ y). inl (omega (arith, ints, l, one))) (λ (l : y <ℤ x). inr l) (ordUp x y)

    at_run : (k : ℕ) (J K : IntervalNo) (y : ℤ) (w e : ℕ) → IsRunWay g k (at J y) (at K y) e → At J y w → At K y (w + e)
    unfolding At
    at_run k J K y w e r h = ⊎_elim
        (λ (a : M (at J y) × Q (at J y) w). inl (m_run k (at J y) (at K y) e r a.0, runs k (at J y) (at K y) w e a.0 a.1 r))
        (λ (a : (M (at J y) → ⊥) × (StripUp J y w ⊎ StripDown J y w)). inr (
          (λ m. a.0 (m_run k (at K y) (at J y) e (record { run = r.run; at = r.at; ends = flip r.ends; straight = refl; low = r.low; high = r.high; cost = r.cost }) m)),
          ⊎_elim
              (λ (s : StripUp J y w). inl (crossUp k J K y w e s r a.0))
              (λ (s : StripDown J y w). inr (crossDown k J K y w e s r a.0))
              a.1,
        ))
        h

    module _ (m_point : (k : ℕ) (u v : Place) (e : ℕ) → IsPointWay g k u v e → M u × M v) (points : (k : ℕ) (u v : Place) (c e : ℕ) → M u → Q u c → IsPointWay g k u v e → Q v (c + e)) where
      at_step : (u v : Place) (w e : ℕ) → IsStep g u v e → At u.interval u.coord w → At v.interval v.coord (w + e)
      unfolding At
      at_step u v w e s h = elim s [
        | inl n ↦
            let there : At u.interval v.coord (w + factor_at g u.interval.0) = at_next u.interval u.coord v.coord w n.from (subst (λ (j : IntervalNo). IsInside g (at j v.coord)) (sym n.one_interval) n.to) n.near h in
            subst (λ (j : IntervalNo). At j v.coord (w + e)) n.one_interval (subst (λ (f : ℕ). At u.interval v.coord (w + f)) (sym n.cost) there)
        | inr t ↦ elim t [
          | inl p ↦ inl (
            (m_point p.0 u v e p.1).1,
            ⊎_elim
                (λ (a : M u × Q u w). points p.0 u v w e a.0 a.1 p.1)
                (λ (a : (M u → ⊥) × (StripUp u.interval u.coord w ⊎ StripDown u.interval u.coord w)). absurd (a.0 (m_point p.0 u v e p.1).0))
                h,
          )
          | inr r ↦
              let way : IsRunWay g r.0 (at u.interval u.coord) (at v.interval u.coord) e = record { run = r.1.run; at = r.1.at; ends = r.1.ends; straight = refl; low = r.1.low; high = r.1.high; cost = r.1.cost } in
              subst (λ (z : ℤ). At v.interval z (w + e)) r.1.straight (at_run r.0 u.interval v.interval u.coord w e way h)
        ]
      ]

      at_along : (s : Stop) → M s.0 → Q s.0 s.1 → (ts : Moves) → IsWalk g s.0 ts → At (end_of s.0 ts).interval (end_of s.0 ts).coord (s.1 + cost_of ts)
      unfolding At
      at_along s m q [] w = inl (m, subst (λ (n : ℕ). Q s.0 n) (sym (add-zero s.1)) q)
      at_along s m q (t ∷ ts) w =
          let h : At t.0.interval t.0.coord (s.1 + cost_of ts + t.1) = at_step (end_of s.0 ts) t.0 (s.1 + cost_of ts) t.1 w.1 (at_along s m q ts w.0) in
          let e : s.1 + cost_of ts + t.1 ≡ s.1 + (cost_of ts + t.1) = omega arith in
          subst (λ (n : ℕ). At t.0.interval t.0.coord n) e h

      -- each walk from a source to a mark is met there at its cost
      pub marks_met : (sources : List Stop) → ((s : Stop) → Contains sources s → M s.0 × Q s.0 s.1) → (v : Place) (c : ℕ) → M v → Reaches g sources v c → Q v c
      unfolding At
      marks_met sources started v c mv r =
          let s : M r.start.0 × Q r.start.0 r.start.1 = started r.start r.has in
          let h : At (end_of r.start.0 r.moves).interval (end_of r.start.0 r.moves).coord (r.start.1 + cost_of r.moves) = at_along r.start s.0 s.1 r.moves r.walk in
          let hv : At v.interval v.coord (r.start.1 + cost_of r.moves) = subst (λ (u : Place). At u.interval u.coord (r.start.1 + cost_of r.moves)) r.arrives h in
          let hc : At v.interval v.coord c = subst (λ (d : ℕ). At v.interval v.coord d) r.cost hv in
          ⊎_elim
          (λ (a : M v × Q v c). a.1)
          (λ (a : (M v → ⊥) × (StripUp v.interval v.coord c ⊎ StripDown v.interval v.coord c)). absurd (a.0 mv))
          hc
