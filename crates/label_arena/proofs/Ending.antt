-- The ends of bridges and runs, and the numbers that they give an interval.
use Rattle.std.proofs.Common.{◌≡◌, ◌≢◌, ◌⊎◌, inl, inr, ℕ, ◌+◌, ◌<◌, ◌≤◌, zero, suc, sym, refl, ap, ◌∙◌, subst, List, [], ◌∷◌, ◌++◌, length, take, arith, Some, All, Contains, slice_get, slice_index_or, ⊎_elim}
use Rattle.std.proofs.lemmas.Bool.{cases_eq}
use Rattle.std.proofs.lemmas.List.{take_more, length-take}
use Rattle.std.proofs.lemmas.List.Elements.{All-nil, All-cons}
use Rattle.std.proofs.lemmas.Option.{same_Some}
use Rattle.label_arena.specs.Lists.{Graph}
use Rattle.label_arena.specs.Ways.{AreExactly, IsBridgeOf, IsRunOf}
use Rattle.label_arena.specs.declared.place.Bridge.{Bridge}
use Rattle.label_arena.specs.declared.place.Run.{Run}
use Rattle.label_arena.specs.declared.group.End.{End}
use Rattle.label_arena.specs.Groups.{numbers_in}
use Rattle.label_arena.specs.Keeping.{ends_of, bridge_ends, run_ends}
use Rattle.label_arena.proofs.Lists.{contains_cons, contains_first, contains_rest}
use Rattle.label_arena.proofs.Numbers.{eq_yes, eq_no, numbers_same, numbers_other}

ends_split : (a b k : ℕ) (es fs : List End) → ends_of a b k (es ++ fs) ≡ ends_of a b k es ++ fs
ends_split a b k es fs = ⊎_elim (λ (h : a ≡ b). rw (eq_yes a b h)) (λ (h : a ≢ b). rw (eq_no a b h)) (cases_eq a b)

ends_first : (a b k : ℕ) (es : List End) → ends_of a b k es ≡ ends_of a b k [] ++ es
ends_first a b k es = ends_split a b k [] es

pub bridges_more : (k : ℕ) (bs : List Bridge) (b : Bridge) → bridge_ends k (bs ++ b ∷ []) ≡ bridge_ends k bs ++ ends_of b.a.interval.0 b.b.interval.0 (k + length bs) []
bridges_more k [] b = rw (zero_past k)
  where
    zero_past : (n : ℕ) → n + 0 ≡ n
    zero_past n = omega arith
bridges_more k (x ∷ bs) b =
    ap (ends_of x.a.interval.0 x.b.interval.0 k) (bridges_more (k + 1) bs b)
    ∙ ends_split x.a.interval.0 x.b.interval.0 k (bridge_ends (k + 1) bs) (ends_of b.a.interval.0 b.b.interval.0 (k + 1 + length bs) [])
    ∙ ap (λ n. bridge_ends k (x ∷ bs) ++ ends_of b.a.interval.0 b.b.interval.0 n []) (next k (length bs))
  where
    next : (n m : ℕ) → n + 1 + m ≡ n + suc m
    next n m = omega arith

pub runs_more : (k : ℕ) (rs : List Run) (r : Run) → run_ends k (rs ++ r ∷ []) ≡ run_ends k rs ++ ends_of r.a.0 r.b.0 (k + length rs) []
runs_more k [] r = rw (zero_past k)
  where
    zero_past : (n : ℕ) → n + 0 ≡ n
    zero_past n = omega arith
runs_more k (x ∷ rs) r =
    ap (ends_of x.a.0 x.b.0 k) (runs_more (k + 1) rs r)
    ∙ ends_split x.a.0 x.b.0 k (run_ends (k + 1) rs) (ends_of r.a.0 r.b.0 (k + 1 + length rs) [])
    ∙ ap (λ n. run_ends k (x ∷ rs) ++ ends_of r.a.0 r.b.0 n []) (next k (length rs))
  where
    next : (n m : ℕ) → n + 1 + m ≡ n + suc m
    next n m = omega arith

-- the ends of one that touches row n, and of one that doesn't
pub touching : (n a b k : ℕ) (es : List End) → (a ≡ n) ⊎ (b ≡ n) → numbers_in n (ends_of a b k es) ≡ k ∷ numbers_in n es
touching n a b k es h = ⊎_elim
    (λ (q : a ≡ b). rw (eq_yes a b q) (numbers_same n (record { row = a; no = k }) es (here q h)))
    (λ (q : a ≢ b). rw (eq_no a b q) (one q h))
    (cases_eq a b)
  where
    here : a ≡ b → (a ≡ n) ⊎ (b ≡ n) → a ≡ n
    here q (inl e) = e
    here q (inr e) = q ∙ e

    one : a ≢ b → (a ≡ n) ⊎ (b ≡ n) → numbers_in n ((record { row = a; no = k }) ∷ (record { row = b; no = k }) ∷ es) ≡ k ∷ numbers_in n es
    one q (inl e) = numbers_same n (record { row = a; no = k }) ((record { row = b; no = k }) ∷ es) e
        ∙ ap (λ ns. k ∷ ns) (numbers_other n (record { row = b; no = k }) es (λ f. q (e ∙ sym f)))
    one q (inr e) = numbers_other n (record { row = a; no = k }) ((record { row = b; no = k }) ∷ es) (λ f. q (f ∙ sym e))
        ∙ numbers_same n (record { row = b; no = k }) es e

pub passing : (n a b k : ℕ) (es : List End) → a ≢ n → b ≢ n → numbers_in n (ends_of a b k es) ≡ numbers_in n es
passing n a b k es ha hb = ⊎_elim
    (λ (q : a ≡ b). rw (eq_yes a b q) (numbers_other n (record { row = a; no = k }) es ha))
    (λ (q : a ≢ b). rw (eq_no a b q) (numbers_other n (record { row = a; no = k }) ((record { row = b; no = k }) ∷ es) ha ∙ numbers_other n (record { row = b; no = k }) es hb))
    (cases_eq a b)

bridges_taken : (bs : List Bridge) (k : ℕ) (d : Bridge) → k < length bs →
    bridge_ends 0 (take (k + 1) bs) ≡ bridge_ends 0 (take k bs) ++ ends_of (slice_index_or bs k d).a.interval.0 (slice_index_or bs k d).b.interval.0 k []
bridges_taken bs k d h =
    rw (take_more bs k d h)
    (bridges_more 0 (take k bs) (slice_index_or bs k d)
    ∙ ap (λ n. bridge_ends 0 (take k bs) ++ ends_of (slice_index_or bs k d).a.interval.0 (slice_index_or bs k d).b.interval.0 n []) (omega (arith, length-take k bs)))

runs_taken : (rs : List Run) (k : ℕ) (d : Run) → k < length rs →
    run_ends 0 (take (k + 1) rs) ≡ run_ends 0 (take k rs) ++ ends_of (slice_index_or rs k d).a.0 (slice_index_or rs k d).b.0 k []
runs_taken rs k d h =
    rw (take_more rs k d h)
    (runs_more 0 (take k rs) (slice_index_or rs k d)
    ∙ ap (λ n. run_ends 0 (take k rs) ++ ends_of (slice_index_or rs k d).a.0 (slice_index_or rs k d).b.0 n []) (omega (arith, length-take k rs)))

pub bridges_step : (bs : List Bridge) (k : ℕ) (d : Bridge) (old new : List End) → k < length bs → new ≡ old ++ ends_of (slice_index_or bs k d).a.interval.0 (slice_index_or bs k d).b.interval.0 k [] → old ≡ bridge_ends 0 (take k bs) → new ≡ bridge_ends 0 (take (k + 1) bs)
bridges_step bs k d old new h n o = n ∙ ap (λ (es : List End). es ++ ends_of (slice_index_or bs k d).a.interval.0 (slice_index_or bs k d).b.interval.0 k []) o ∙ sym (bridges_taken bs k d h)

pub runs_step : (rs : List Run) (k : ℕ) (d : Run) (old new : List End) → k < length rs → new ≡ old ++ ends_of (slice_index_or rs k d).a.0 (slice_index_or rs k d).b.0 k [] → old ≡ run_ends 0 (take k rs) → new ≡ run_ends 0 (take (k + 1) rs)
runs_step rs k d old new h n o = n ∙ ap (λ (es : List End). es ++ ends_of (slice_index_or rs k d).a.0 (slice_index_or rs k d).b.0 k []) o ∙ sym (runs_taken rs k d h)

-- each end is on one of n intervals
ends_all : (n a b k : ℕ) (es : List End) → a < n → b < n → All (λ (e : End). e.row < n) es → All (λ (e : End). e.row < n) (ends_of a b k es)
ends_all n a b k es ha hb h = ⊎_elim
    (λ (q : a ≡ b). rw (eq_yes a b q) (All-cons (λ (e : End). e.row < n) (record { row = a; no = k }) es ha h))
    (λ (q : a ≢ b). rw (eq_no a b q) (All-cons (λ (e : End). e.row < n) (record { row = a; no = k }) ((record { row = b; no = k }) ∷ es) ha (All-cons (λ (e : End). e.row < n) (record { row = b; no = k }) es hb h)))
    (cases_eq a b)

pub bridge_rows : (n k : ℕ) (bs : List Bridge) → ((j : ℕ) (b : Bridge) → slice_get bs j ≡ Some b → (b.a.interval.0 < n) × (b.b.interval.0 < n)) → All (λ (e : End). e.row < n) (bridge_ends k bs)
bridge_rows n k [] h = All-nil (λ (e : End). e.row < n)
bridge_rows n k (b ∷ bs) h = ends_all n b.a.interval.0 b.b.interval.0 k (bridge_ends (k + 1) bs) (h 0 b refl).0 (h 0 b refl).1 (bridge_rows n (k + 1) bs (λ j x at. h (suc j) x at))

pub run_rows : (n k : ℕ) (rs : List Run) → ((j : ℕ) (r : Run) → slice_get rs j ≡ Some r → (r.a.0 < n) × (r.b.0 < n)) → All (λ (e : End). e.row < n) (run_ends k rs)
run_rows n k [] h = All-nil (λ (e : End). e.row < n)
run_rows n k (r ∷ rs) h = ends_all n r.a.0 r.b.0 k (run_ends (k + 1) rs) (h 0 r refl).0 (h 0 r refl).1 (run_rows n (k + 1) rs (λ j x at. h (suc j) x at))

touch_or_not : (n a b : ℕ) → ((a ≡ n) ⊎ (b ≡ n)) ⊎ ((a ≢ n) × (b ≢ n))
touch_or_not n a b = ⊎_elim
    (λ (p : a ≡ n). inl (inl p))
    (λ (p : a ≢ n). ⊎_elim (λ (q : b ≡ n). inl (inr q)) (λ (q : b ≢ n). inr (p, q)) (cases_eq b n))
    (cases_eq a n)

plus_zero : (k : ℕ) → k + 0 ≡ k
plus_zero k = omega arith

zero_plus : (k : ℕ) → 0 + k ≡ k
zero_plus k = omega arith

plus_one : (k j : ℕ) → k + 1 + j ≡ k + suc j
plus_one k j = omega arith

-- a number of row n is the number of a bridge that touches it
pub bridges_only : (n k m : ℕ) (bs : List Bridge) → Contains (numbers_in n (bridge_ends k bs)) m → (j : ℕ) × (b : Bridge) × (m ≡ k + j) × (slice_get bs j ≡ Some b) × ((b.a.interval.0 ≡ n) ⊎ (b.b.interval.0 ≡ n))
bridges_only n k m [] h = absurd (omega (arith, h.1))
bridges_only n k m (b ∷ bs) h = ⊎_elim
    (λ (t : (b.a.interval.0 ≡ n) ⊎ (b.b.interval.0 ≡ n)). ⊎_elim
    (λ (e : m ≡ k). (0, b, e ∙ sym (plus_zero k), refl, t))
    (λ (r : Contains (numbers_in n (bridge_ends (k + 1) bs)) m). let f = bridges_only n (k + 1) m bs r in (suc f.0, f.1, f.2 ∙ plus_one k f.0, f.3, f.4))
    (contains_cons k _ m (subst (λ (ns : List ℕ). Contains ns m) (touching n b.a.interval.0 b.b.interval.0 k (bridge_ends (k + 1) bs) t) h)))
    (λ (p : (b.a.interval.0 ≢ n) × (b.b.interval.0 ≢ n)).
    let f = bridges_only n (k + 1) m bs (subst (λ (ns : List ℕ). Contains ns m) (passing n b.a.interval.0 b.b.interval.0 k (bridge_ends (k + 1) bs) p.0 p.1) h) in (suc f.0, f.1, f.2 ∙ plus_one k f.0, f.3, f.4))
    (touch_or_not n b.a.interval.0 b.b.interval.0)

pub bridges_every : (n k j : ℕ) (b : Bridge) (bs : List Bridge) → slice_get bs j ≡ Some b → ((b.a.interval.0 ≡ n) ⊎ (b.b.interval.0 ≡ n)) → Contains (numbers_in n (bridge_ends k bs)) (k + j)
bridges_every n k j b [] at t = absurd (cc)
bridges_every n k zero b (x ∷ bs) at t =
    let e : x ≡ b = same_Some x b at in
    subst (λ (m : ℕ). Contains (numbers_in n (bridge_ends k (x ∷ bs))) m) (sym (plus_zero k))
    (rw (touching n x.a.interval.0 x.b.interval.0 k (bridge_ends (k + 1) bs) (subst (λ (y : Bridge). (y.a.interval.0 ≡ n) ⊎ (y.b.interval.0 ≡ n)) (sym e) t)) (contains_first k _))
bridges_every n k (suc j) b (x ∷ bs) at t =
    let r : Contains (numbers_in n (bridge_ends (k + 1) bs)) (k + suc j) = subst (λ (m : ℕ). Contains (numbers_in n (bridge_ends (k + 1) bs)) m) (plus_one k j) (bridges_every n (k + 1) j b bs at t) in
    ⊎_elim
    (λ (s : (x.a.interval.0 ≡ n) ⊎ (x.b.interval.0 ≡ n)). rw (touching n x.a.interval.0 x.b.interval.0 k (bridge_ends (k + 1) bs) s) (contains_rest k _ (k + suc j) r))
    (λ (p : (x.a.interval.0 ≢ n) × (x.b.interval.0 ≢ n)). rw (passing n x.a.interval.0 x.b.interval.0 k (bridge_ends (k + 1) bs) p.0 p.1) r)
    (touch_or_not n x.a.interval.0 x.b.interval.0)

pub bridges_few : (n k : ℕ) (bs : List Bridge) → length (numbers_in n (bridge_ends k bs)) ≤ length bs
bridges_few n k [] = omega arith
bridges_few n k (b ∷ bs) = ⊎_elim
    (λ (t : (b.a.interval.0 ≡ n) ⊎ (b.b.interval.0 ≡ n)). omega (arith, ap length (touching n b.a.interval.0 b.b.interval.0 k (bridge_ends (k + 1) bs) t), bridges_few n (k + 1) bs))
    (λ (p : (b.a.interval.0 ≢ n) × (b.b.interval.0 ≢ n)). omega (arith, ap length (passing n b.a.interval.0 b.b.interval.0 k (bridge_ends (k + 1) bs) p.0 p.1), bridges_few n (k + 1) bs))
    (touch_or_not n b.a.interval.0 b.b.interval.0)

-- a number of row n is the number of a run that touches it
pub runs_only : (n k m : ℕ) (bs : List Run) → Contains (numbers_in n (run_ends k bs)) m → (j : ℕ) × (b : Run) × (m ≡ k + j) × (slice_get bs j ≡ Some b) × ((b.a.0 ≡ n) ⊎ (b.b.0 ≡ n))
runs_only n k m [] h = absurd (omega (arith, h.1))
runs_only n k m (b ∷ bs) h = ⊎_elim
    (λ (t : (b.a.0 ≡ n) ⊎ (b.b.0 ≡ n)). ⊎_elim
    (λ (e : m ≡ k). (0, b, e ∙ sym (plus_zero k), refl, t))
    (λ (r : Contains (numbers_in n (run_ends (k + 1) bs)) m). let f = runs_only n (k + 1) m bs r in (suc f.0, f.1, f.2 ∙ plus_one k f.0, f.3, f.4))
    (contains_cons k _ m (subst (λ (ns : List ℕ). Contains ns m) (touching n b.a.0 b.b.0 k (run_ends (k + 1) bs) t) h)))
    (λ (p : (b.a.0 ≢ n) × (b.b.0 ≢ n)).
    let f = runs_only n (k + 1) m bs (subst (λ (ns : List ℕ). Contains ns m) (passing n b.a.0 b.b.0 k (run_ends (k + 1) bs) p.0 p.1) h) in (suc f.0, f.1, f.2 ∙ plus_one k f.0, f.3, f.4))
    (touch_or_not n b.a.0 b.b.0)

pub runs_every : (n k j : ℕ) (b : Run) (bs : List Run) → slice_get bs j ≡ Some b → ((b.a.0 ≡ n) ⊎ (b.b.0 ≡ n)) → Contains (numbers_in n (run_ends k bs)) (k + j)
runs_every n k j b [] at t = absurd (cc)
runs_every n k zero b (x ∷ bs) at t =
    let e : x ≡ b = same_Some x b at in
    subst (λ (m : ℕ). Contains (numbers_in n (run_ends k (x ∷ bs))) m) (sym (plus_zero k))
    (rw (touching n x.a.0 x.b.0 k (run_ends (k + 1) bs) (subst (λ (y : Run). (y.a.0 ≡ n) ⊎ (y.b.0 ≡ n)) (sym e) t)) (contains_first k _))
runs_every n k (suc j) b (x ∷ bs) at t =
    let r : Contains (numbers_in n (run_ends (k + 1) bs)) (k + suc j) = subst (λ (m : ℕ). Contains (numbers_in n (run_ends (k + 1) bs)) m) (plus_one k j) (runs_every n (k + 1) j b bs at t) in
    ⊎_elim
    (λ (s : (x.a.0 ≡ n) ⊎ (x.b.0 ≡ n)). rw (touching n x.a.0 x.b.0 k (run_ends (k + 1) bs) s) (contains_rest k _ (k + suc j) r))
    (λ (p : (x.a.0 ≢ n) × (x.b.0 ≢ n)). rw (passing n x.a.0 x.b.0 k (run_ends (k + 1) bs) p.0 p.1) r)
    (touch_or_not n x.a.0 x.b.0)

pub runs_few : (n k : ℕ) (bs : List Run) → length (numbers_in n (run_ends k bs)) ≤ length bs
runs_few n k [] = omega arith
runs_few n k (b ∷ bs) = ⊎_elim
    (λ (t : (b.a.0 ≡ n) ⊎ (b.b.0 ≡ n)). omega (arith, ap length (touching n b.a.0 b.b.0 k (run_ends (k + 1) bs) t), runs_few n (k + 1) bs))
    (λ (p : (b.a.0 ≢ n) × (b.b.0 ≢ n)). omega (arith, ap length (passing n b.a.0 b.b.0 k (run_ends (k + 1) bs) p.0 p.1), runs_few n (k + 1) bs))
    (touch_or_not n b.a.0 b.b.0)

pub bridges_exactly : (g : Graph) (n : ℕ) (ks : List ℕ) → ks ≡ numbers_in n (bridge_ends 0 g.bridges) → AreExactly (IsBridgeOf g n) ks
bridges_exactly g n ks e = record {
  only = λ k h. let f = bridges_only n 0 k g.bridges (subst (λ (ns : List ℕ). Contains ns k) e h) in record { bridge = f.1; at = ap (slice_get g.bridges) (f.2 ∙ zero_plus f.0) ∙ f.3; touches = f.4 };
  every = λ k h. subst (λ (ns : List ℕ). Contains ns k) (sym e) (subst (λ (m : ℕ). Contains (numbers_in n (bridge_ends 0 g.bridges)) m) (zero_plus k) (bridges_every n 0 k h.bridge g.bridges h.at h.touches));
}

pub runs_exactly : (g : Graph) (n : ℕ) (ks : List ℕ) → ks ≡ numbers_in n (run_ends 0 g.runs) → AreExactly (IsRunOf g n) ks
runs_exactly g n ks e = record {
  only = λ k h. let f = runs_only n 0 k g.runs (subst (λ (ns : List ℕ). Contains ns k) e h) in record { run = f.1; at = ap (slice_get g.runs) (f.2 ∙ zero_plus f.0) ∙ f.3; touches = f.4 };
  every = λ k h. subst (λ (ns : List ℕ). Contains ns k) (sym e) (subst (λ (m : ℕ). Contains (numbers_in n (run_ends 0 g.runs)) m) (zero_plus k) (runs_every n 0 k h.run g.runs h.at h.touches));
}
