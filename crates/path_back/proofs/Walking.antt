-- Corners are a walk of the plain graph.
use Rattle.std.proofs.Common.{◌≡◌, ◌⊎◌, inl, inr, ℕ, ◌+◌, sym, refl, ap, ◌∙◌, subst, List, [], ◌∷◌, arith}
use Rattle.label_arena.specs.declared.place.Place.{Place}
use Rattle.label_arena.specs.declared.place.By.{By}
use Rattle.label_arena.specs.declared.place.By.TheVariants.{Source, Slide, Point, Run as OverRun}
use Rattle.label_arena.specs.Lists.{Graph}
use Rattle.label_arena.specs.Plain.{slide, end_of, cost_of, IsNext, IsPointWay, IsRunWay, IsStep, IsWalk, IsWay}
use Rattle.label_arena.specs.Traces.{IsSlide, IsOver, IsSomeRun, Leads}
use Rattle.path_back.specs.declared.corner.Corner.{Corner}
use Rattle.path_back.specs.Corners.{Follow, last_of}
use Rattle.path_back.proofs.Sliding.{slid}

pub way_none : (g : Graph) (p : Place) → IsWay g p p 0
way_none g p = record { moves = []; walk = tt; arrives = refl; cost = refl }

-- one step more
way_more : (g : Graph) (p u v : Place) (c e : ℕ) → IsWay g p u c → IsStep g u v e → IsWay g p v (c + e)
way_more g p u v c e w s = record {
  moves = (v, e) ∷ w.moves;
  walk = (w.walk, subst (λ (q : Place). IsStep g q v e) (sym w.arrives) s);
  arrives = refl;
  cost = ap (λ n. n + e) w.cost;
}

way_slid : (g : Graph) (p u v : Place) (c d : ℕ) → IsWay g p u c → IsSlide g u v d → IsWay g p v (c + d)
way_slid g p u v c d w s =
    subst (λ (n : ℕ). IsWay g p v (c + n)) (sym s.cost)
    (slid g (λ q n. IsWay g p q n) (λ a b n e h k. way_more g p a b n e h (inl k)) u v c s.from s.to s.one_interval w)

-- a slide and then a step
way_over : (g : Graph) (p u v : Place) (c d : ℕ) (Way : Place → Place → ℕ → Type 0) → ((a b : Place) (e : ℕ) → Way a b e → IsStep g a b e) → IsWay g p u c → IsOver g Way u v d → IsWay g p v (c + d)
way_over g p u v c d Way step w s =
    let near : IsWay g p s.near (c + s.slid) = way_slid g p u s.near c s.slid w s.slides in
    let far : IsWay g p v (c + s.slid + s.crossed) = way_more g p s.near v (c + s.slid) s.crossed near (step s.near v s.crossed s.way) in
    let sum : c + s.slid + s.crossed ≡ c + d = omega (arith, s.sum) in
    subst (λ (n : ℕ). IsWay g p v n) sum far

-- what leads from one corner to the next
way_led : (g : Graph) (by : By) (p u v : Place) (c d : ℕ) → IsWay g p u c → Leads g by u v d → IsWay g p v (c + d)
way_led g (Source k) p u v c d w h = absurd h
way_led g Slide p u v c d w h = way_slid g p u v c d w h
way_led g (Point k) p u v c d w h = way_over g p u v c d (IsPointWay g k) (λ a b e s. inr (inl (k, s))) w h
way_led g OverRun p u v c d w h = way_over g p u v c d (IsSomeRun g) (λ a b e s. inr (inr s)) w h

-- and all the corners
pub way_followed : (g : Graph) (p u : Place) (c d : ℕ) (xs : List Corner) → IsWay g p u c → Follow g u xs d → IsWay g p (last_of u xs) (c + d)
way_followed g p u c d [] w h =
    let none : c ≡ c + d = omega (arith, h) in
    subst (λ (n : ℕ). IsWay g p u n) none w
way_followed g p u c d (x ∷ xs) w h =
    let next : IsWay g p x.place (c + h.0) = way_led g x.by p u x.place c h.0 w h.2 in
    let all : IsWay g p (last_of x.place xs) (c + h.0 + h.1) = way_followed g p x.place (c + h.0) h.1 xs next h.3 in
    let sum : c + h.0 + h.1 ≡ c + d = omega (arith, h.4) in
    subst (λ (n : ℕ). IsWay g p (last_of x.place xs) n) sum all
