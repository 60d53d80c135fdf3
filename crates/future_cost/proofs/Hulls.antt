-- The hull of the targets, target by target.
use Rattle.std.proofs.Common.{◌≡◌, ◌⊎◌, ℕ, ◌+◌, ◌≤◌, ◌<◌, ◌≤ℤ◌, ◌<ℤ◌, ℤ, min, max, zero, suc, sym, refl, ap, ◌∙◌, subst, List, [], ◌∷◌, ◌++◌, length, take, arith, Contains, slice_index_or, ⊎_elim}
use Rattle.std.specs.Int.{int_min, int_max}
use Rattle.std.proofs.lemmas.Int.{ints, clamps, by_lt_z}
use Rattle.std.proofs.lemmas.Bool.{cases_lt}
use Rattle.std.proofs.lemmas.List.{take_more, take_all}
use Rattle.std.proofs.lemmas.List.Elements.{Contains-append_cases, Contains-get_or}
use Rattle.rt_base.specs.declared.walk.Vertex.{Vertex}
use Rattle.future_cost.specs.declared.bound.Bound.{Bound}
use Rattle.future_cost.specs.Under.{IsRange, IsLevelRange, IsHullOf, widened}

-- the ends are targets', and the range holds what was seen
pub record IsRangeSoFar (coord : Vertex → ℤ) (targets seen : List Vertex) (l h : ℤ) : Type 0 where
  pub low : (v : Vertex) × Contains targets v × (coord v ≡ l)
  pub high : (v : Vertex) × Contains targets v × (coord v ≡ h)
  pub holds : (v : Vertex) → Contains seen v → (l ≤ℤ coord v) × (coord v ≤ℤ h)

pub record IsLevelRangeSoFar (targets seen : List Vertex) (l h : ℕ) : Type 0 where
  pub low : (v : Vertex) × Contains targets v × (v.level ≡ l)
  pub high : (v : Vertex) × Contains targets v × (v.level ≡ h)
  pub holds : (v : Vertex) → Contains seen v → (l ≤ v.level) × (v.level ≤ h)

pub record IsHullSoFar (targets seen : List Vertex) (b : Bound) : Type 0 where
  pub x : IsRangeSoFar (λ (v : Vertex). v.point.x) targets seen b.x.lo b.x.hi
  pub y : IsRangeSoFar (λ (v : Vertex). v.point.y) targets seen b.y.lo b.y.hi
  pub level : IsLevelRangeSoFar targets seen b.bottom b.top

only_one : (v w : Vertex) → Contains (v ∷ []) w → w ≡ v
only_one v w (zero, h, e) = sym e
only_one v w (suc k, h, e) = absurd (omega arith)

range_more : (coord : Vertex → ℤ) (targets seen : List Vertex) (l h : ℤ) (v : Vertex) → Contains targets v → IsRangeSoFar coord targets seen l h → IsRangeSoFar coord targets (seen ++ v ∷ []) (int_min l (coord v)) (int_max h (coord v))
range_more coord targets seen l h v has r = record {
  low = by_lt_z (coord v) l
      (λ (q : coord v <ℤ l). (v, has, omega (arith, ints, clamps)))
      (λ (q : l ≤ℤ coord v). (r.low.0, r.low.1, omega (arith, ints, clamps, r.low.2)));
  high = by_lt_z h (coord v)
      (λ (q : h <ℤ coord v). (v, has, omega (arith, ints, clamps)))
      (λ (q : coord v ≤ℤ h). (r.high.0, r.high.1, omega (arith, ints, clamps, r.high.2)));
  holds = λ w c. ⊎_elim
      (λ (o : Contains seen w). let p = r.holds w o in (omega (arith, ints, clamps, p.0), omega (arith, ints, clamps, p.1)))
      (λ (n : Contains (v ∷ []) w). let e : coord w ≡ coord v = ap coord (only_one v w n) in (omega (arith, ints, clamps, e), omega (arith, ints, clamps, e)))
      (Contains-append_cases seen (v ∷ []) w c);
}

level_more : (targets seen : List Vertex) (l h : ℕ) (v : Vertex) → Contains targets v → IsLevelRangeSoFar targets seen l h → IsLevelRangeSoFar targets (seen ++ v ∷ []) (min l v.level) (max h v.level)
level_more targets seen l h v has r = record {
  low = ⊎_elim
      (λ (q : v.level < l). (v, has, omega arith))
      (λ (q : l ≤ v.level). (r.low.0, r.low.1, omega (arith, r.low.2)))
      (cases_lt v.level l);
  high = ⊎_elim
      (λ (q : h < v.level). (v, has, omega arith))
      (λ (q : v.level ≤ h). (r.high.0, r.high.1, omega (arith, r.high.2)))
      (cases_lt h v.level);
  holds = λ w c. ⊎_elim
      (λ (o : Contains seen w). let p = r.holds w o in (omega (arith, p.0), omega (arith, p.1)))
      (λ (n : Contains (v ∷ []) w). let e : w.level ≡ v.level = ap (λ (u : Vertex). u.level) (only_one v w n) in (omega (arith, e), omega (arith, e)))
      (Contains-append_cases seen (v ∷ []) w c);
}

pub hull_more : (targets seen : List Vertex) (b : Bound) (v : Vertex) → Contains targets v → IsHullSoFar targets seen b → IsHullSoFar targets (seen ++ v ∷ []) (widened b v)
hull_more targets seen b v has h = record {
  x = range_more (λ (v : Vertex). v.point.x) targets seen b.x.lo b.x.hi v has h.x;
  y = range_more (λ (v : Vertex). v.point.y) targets seen b.y.lo b.y.hi v has h.y;
  level = level_more targets seen b.bottom b.top v has h.level;
}

-- the next target
pub hull_step : (targets : List Vertex) (k : ℕ) (d : Vertex) (b new : Bound) → k < length targets → IsHullSoFar targets (take k targets) b → new ≡ widened b (slice_index_or targets k d) → IsHullSoFar targets (take (k + 1) targets) new
hull_step targets k d b new l h e =
    rw (take_more targets k d l)
    (subst (IsHullSoFar targets (take k targets ++ slice_index_or targets k d ∷ [])) (sym e)
    (hull_more targets (take k targets) b (slice_index_or targets k d) (Contains-get_or targets k d l) h))

-- all of them
pub hull_whole : (targets : List Vertex) (b : Bound) → IsHullSoFar targets targets b → IsHullOf targets b
hull_whole targets b h = record {
  x = record { low = h.x.low; high = h.x.high; holds = h.x.holds };
  y = record { low = h.y.low; high = h.y.high; holds = h.y.holds };
  level = record { low = h.level.low; high = h.level.high; holds = h.level.holds };
}

-- none of them
pub hull_first : (targets : List Vertex) (v : Vertex) (b : Bound) → Contains targets v → b.x.lo ≡ v.point.x → b.x.hi ≡ v.point.x → b.y.lo ≡ v.point.y → b.y.hi ≡ v.point.y → b.bottom ≡ v.level → b.top ≡ v.level → IsHullSoFar targets [] b
hull_first targets v b has a c d e f g = record {
  x = record { low = (v, has, sym a); high = (v, has, sym c); holds = λ w q. absurd (none w q) };
  y = record { low = (v, has, sym d); high = (v, has, sym e); holds = λ w q. absurd (none w q) };
  level = record { low = (v, has, sym f); high = (v, has, sym g); holds = λ w q. absurd (none w q) };
}
  where
    none : (w : Vertex) → Contains [] w → ⊥
    none w q = omega (arith, q.1)
