use Rattle.std.proofs.Common.{◌≡◌, inl, inr, ℕ, ◌+◌, ◌≤◌, sym, refl, subst, List, [], ◌∷◌, ◌++◌, length, Option, Some, None, MatchOption, arith}
use Rattle.label_arena.specs.declared.place.Place.{Place}
use Rattle.label_arena.specs.declared.place.Label.{Label}
use Rattle.label_arena.specs.declared.place.LabelNo.{LabelNo}
use Rattle.label_arena.specs.declared.place.By.{By}
use Rattle.label_arena.specs.declared.place.By.TheVariants.{Source, Slide, Point, Run as OverRun}
use Rattle.label_arena.specs.Lists.{Graph}
use Rattle.label_arena.specs.Plain.{slide, IsInside, IsStep, IsConsistent, Reaches}
use Rattle.label_arena.specs.Marks.{IsMark}
use Rattle.label_arena.specs.Traces.{IsFrom, IsSource, Leads, IsSlide}
use Rattle.interval_label.specs.Task.{Stop}
use Rattle.interval_label.specs.Known.{Rows, IsListed, IsKnown, KnowsMarks}
use Rattle.interval_label.specs.Search.{WayBy, LeadsToMark, IsCrossed}
use Rattle.interval_label.specs.State.{IsLabel}
use Rattle.interval_label.proofs.Lists.{get_last, length_more}
use Rattle.interval_label.proofs.Sliding.{slid}
use Rattle.interval_label.proofs.Reaching.{reaches_more, reaches_slid}
use Rattle.interval_label.proofs.Standing.{mark_along}

step_of : (g : Graph) (by : By) (u v : Place) (c : ℕ) → WayBy g by u v c → IsStep g u v c
step_of g (Source k) u v c h = absurd h
step_of g Slide u v c h = absurd h
step_of g (Point k) u v c h = inr (inl (k, h))
step_of g OverRun u v c h = inr (inr h)

leads_of : (g : Graph) (by : By) (u near v : Place) (s c : ℕ) → IsSlide g u near s → WayBy g by near v c → Leads g by u v (s + c)
leads_of g (Source k) u near v s c i h = absurd h
leads_of g Slide u near v s c i h = absurd h
leads_of g (Point k) u near v s c i h = record { near = near; slid = s; crossed = c; slides = i; way = h; sum = refl }
leads_of g OverRun u near v s c i h = record { near = near; slid = s; crossed = c; slides = i; way = h; sum = refl }

no_source : (g : Graph) (by : By) (u v : Place) (c k : ℕ) → by ≡ Source k → WayBy g by u v c → ⊥
no_source g by u v c k e h = subst (λ (b : By). WayBy g b u v c) e h

known_mark : (g : Graph) (sources targets : List Stop) (known : Option Rows) (v : Place) → KnowsMarks g sources targets known → IsKnown known v → IsMark g sources targets v
known_mark g sources targets None v k h = absurd (clash h.0 h.1)
  where
    clash : (rows : Rows) → None ≡ Some rows → ⊥
    clash rows e = cc
known_mark g sources targets (Some rows) v k h = let same : h.0 ≡ rows = same_one h.0 rows (sym h.1) in k.marks v (subst (λ (r : Rows). IsListed r v) same h.2)
  where
    same_one : (a b : Rows) → Some a ≡ Some b → a ≡ b
    same_one a b e = cc

lead_mark : (g : Graph) (sources targets : List Stop) (known : Option Rows) (x : Label) (near far : Place) → KnowsMarks g sources targets known → IsMark g sources targets x.place → LeadsToMark g known x near far → IsMark g sources targets far
lead_mark g sources targets known x near far k m h = elim h [
  | inl e ↦ (0, inr (inr (inl e)))
  | inr t ↦ elim t [
    | inl e ↦ (0, inr (inr (inr e)))
    | inr s ↦ elim s [
      | inl a ↦ mark_along g sources targets a.1.1.0 near far a.1.0 a.1.1.1 (subst (λ (u : Place). IsMark g sources targets u) (sym a.0) m)
      | inr e ↦ known_mark g sources targets known far k e
    ]
  ]
]

-- what a label leads to can become a label
pub crossed_label : (g : Graph) (sources targets : List Stop) (b : Place → ℕ) (known : Option Rows) (ls : List Label) (x : Label) (d : ℕ) (y : Label) → KnowsMarks g sources targets known → IsLabel g sources targets ls (length ls) x → IsCrossed g b known (record { 0 = length ls }) x d y → IsLabel g sources targets (ls ++ x ∷ []) (length (ls ++ x ∷ [])) y
crossed_label g sources targets b known ls x d y k l c =
    let n : LabelNo = record { 0 = length ls } in
    let away : IsSlide g x.place c.near (slide g x.place c.near.coord) = record { from = l.inside; to = c.near_in; one_interval = c.one_interval; cost = refl } in
    let from : IsFrom g (ls ++ x ∷ []) (length (ls ++ x ∷ [])) y n = record {
      earlier = omega (arith, length_more ls x);
      label = x;
      at = get_last ls x;
      cost = slide g x.place c.near.coord + c.cost;
      leads = leads_of g y.by x.place c.near y.place _ c.cost away c.way;
      dist = omega (arith, c.dist);
    } in
    let there : Reaches g sources c.near (x.dist + slide g x.place c.near.coord) = reaches_slid g sources x.place c.near x.dist l.inside c.near_in c.one_interval l.reached in
    let far : Reaches g sources y.place (x.dist + slide g x.place c.near.coord + c.cost) = reaches_more g sources c.near y.place _ c.cost there (step_of g y.by c.near y.place c.cost c.way) in
    record {
      inside = c.far_in;
      mark = lead_mark g sources targets known x c.near y.place k l.mark c.mark;
      traced = subst (λ (o : Option LabelNo). MatchOption o (IsSource y.by) (IsFrom g (ls ++ x ∷ []) (length (ls ++ x ∷ [])) y)) (sym c.origin) from;
      source = λ j e. absurd (no_source g y.by c.near y.place c.cost j e c.way);
      reached = subst (λ (e : ℕ). Reaches g sources y.place e) (sym c.dist) far;
    }

-- the bound falls along a slide by at most its cost
pub bound_slid : (g : Graph) (b : Place → ℕ) → IsConsistent g b → (u v : Place) → IsInside g u → IsInside g v → u.interval ≡ v.interval → b u ≤ slide g u v.coord + b v
bound_slid g b con u v i j e =
    let t : b u ≤ 0 + slide g u v.coord + b v = slid g (λ w c. b u ≤ c + b w) (λ x y c d h n. omega (arith, h, con x y d (inl n))) u v 0 i j e (omega arith) in
    omega (arith, t)

-- no candidate beyond a way has a lower key than the label
pub key_crossed : (g : Graph) (b : Place → ℕ) (by : By) → IsConsistent g b → (x : Label) (near far : Place) (c d : ℕ) → IsInside g x.place → IsInside g near → x.place.interval ≡ near.interval → WayBy g by near far c → d ≡ x.dist + slide g x.place near.coord + c → x.dist + b x.place ≤ d + b far
key_crossed g b by con x near far c d i j e w is = omega (arith, is, con near far c (step_of g by near far c w), bound_slid g b con x.place near i j e)
