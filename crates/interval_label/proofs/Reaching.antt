use Rattle.std.proofs.Common.{◌≡◌, inl, ℕ, ◌+◌, add-zero, refl, List, [], ◌∷◌, Contains, arith}
use Rattle.label_arena.specs.declared.place.Place.{Place}
use Rattle.label_arena.specs.Lists.{Graph}
use Rattle.label_arena.specs.Plain.{slide, IsInside, IsStep, Reaches}
use Rattle.interval_label.specs.Task.{Stop}
use Rattle.interval_label.proofs.Sliding.{slid}

pub reaches_source : (g : Graph) (sources : List Stop) (s : Stop) → Contains sources s → Reaches g sources s.0 s.1
reaches_source g sources s h = record { start = s; has = h; moves = []; walk = tt; arrives = refl; cost = add-zero s.1 }

-- one step more
pub reaches_more : (g : Graph) (sources : List Stop) (u v : Place) (c e : ℕ) → Reaches g sources u c → IsStep g u v e → Reaches g sources v (c + e)
reaches_more g sources u v c e r s = record {
  start = r.start;
  has = r.has;
  moves = (v, e) ∷ r.moves;
  walk = (r.walk, rw r.arrives s);
  arrives = refl;
  cost = omega (arith, r.cost);
}

pub reaches_slid : (g : Graph) (sources : List Stop) (u v : Place) (c : ℕ) → IsInside g u → IsInside g v → u.interval ≡ v.interval → Reaches g sources u c → Reaches g sources v (c + slide g u v.coord)
reaches_slid g sources = slid g (Reaches g sources) (λ u v c e r n. reaches_more g sources u v c e r (inl n))
