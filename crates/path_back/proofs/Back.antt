-- Going back label by label.
use Rattle.std.proofs.Common.{◌≡◌, ℕ, ◌+◌, ◌<◌, ◌≤◌, ⊎_elim, sym, refl, ap, ◌∙◌, subst, List, [], ◌∷◌, ◌++◌, length, reverse, arith, slice_get, slice_index_or, Option, Some, None, MatchOption}
use Rattle.std.proofs.lemmas.List.{reverse-append}
use Rattle.std.proofs.lemmas.Option.{slice_get_within, slice_get_cases, same_Some}
use Rattle.label_arena.specs.declared.place.Label.{Label}
use Rattle.label_arena.specs.declared.place.LabelNo.{LabelNo}
use Rattle.label_arena.specs.Lists.{Graph}
use Rattle.label_arena.specs.Plain.{IsWay}
use Rattle.label_arena.specs.Traces.{IsSource, IsFrom, IsTraced, AreTraced}
use Rattle.path_back.specs.declared.corner.Corner.{Corner}
use Rattle.path_back.specs.Corners.{Follow, last_of, corner_of, IsWayBack}
use Rattle.path_back.proofs.Walking.{way_none, way_followed}

-- the corners after label `at` lead to label n
pub record IsBack (g : Graph) (ls : List Label) (n at : ℕ) (rest : List Corner) : Type 0 where
  pub label : Label
  pub is : slice_get ls n ≡ Some label
  pub here : Label
  pub here_is : slice_get ls at ≡ Some here
  pub cost : ℕ
  pub follow : Follow g here.place rest cost
  pub arrives : last_of here.place rest ≡ label.place
  pub dist : label.dist ≡ here.dist + cost

pub back_none : (g : Graph) (ls : List Label) (n : ℕ) (x : Label) → slice_get ls n ≡ Some x → IsBack g ls n n []
back_none g ls n x is = record {
  label = x;
  is = is;
  here = x;
  here_is = is;
  cost = 0;
  follow = refl;
  arrives = refl;
  dist = omega arith;
}

-- the label that is read is the one known
from_origin : (g : Graph) (ls : List Label) (at : ℕ) (x : Label) (o : LabelNo) → AreTraced g ls → slice_get ls at ≡ Some x → x.origin ≡ Some o → IsFrom g ls at x o
from_origin g ls at x o t is e = subst (λ (q : Option LabelNo). MatchOption q (IsSource x.by) (IsFrom g ls at x)) e (t at x is)

pub origin_within : (g : Graph) (ls : List Label) (at : ℕ) (x : Label) (o : LabelNo) → AreTraced g ls → slice_get ls at ≡ Some x → x.origin ≡ Some o → (o.0 < at) × (o.0 < length ls)
origin_within g ls at x o t is e = let f = from_origin g ls at x o t is e in (f.earlier, slice_get_within ls o.0 f.label f.at)

pub back_more : (g : Graph) (ls : List Label) (n at : ℕ) (rest : List Corner) (x : Label) (o : LabelNo) → AreTraced g ls → slice_get ls at ≡ Some x → x.origin ≡ Some o → IsBack g ls n at rest → IsBack g ls n o.0 (corner_of x ∷ rest)
back_more g ls n at rest x o t is e h =
    let f : IsFrom g ls at x o = from_origin g ls at x o t is e in
    let same : h.here ≡ x = same_Some h.here x (sym h.here_is ∙ is) in
    let far : h.here.dist ≡ x.dist = ap (λ (y : Label). y.dist) same in
    record {
      label = h.label;
      is = h.is;
      here = f.label;
      here_is = f.at;
      cost = f.cost + h.cost;
      follow = (f.cost, h.cost, f.leads, subst (λ (y : Label). Follow g y.place rest h.cost) same h.follow, refl);
      arrives = subst (λ (y : Label). last_of y.place rest ≡ h.label.place) same h.arrives;
      dist = omega (arith, h.dist, far, f.dist);
    }

-- a corner more at the end of what was gathered
pub gathered : (corners new : List Corner) (c : Corner) → new ≡ corners ++ c ∷ [] → reverse new ≡ c ∷ reverse corners
gathered corners new c e = ap reverse e ∙ reverse-append corners (c ∷ [])

pub back_whole : (g : Graph) (ls : List Label) (n at : ℕ) (rest corners : List Corner) (x : Label) → AreTraced g ls → slice_get ls at ≡ Some x → x.origin ≡ None → corners ≡ corner_of x ∷ rest → IsBack g ls n at rest → IsWayBack g ls n corners
back_whole g ls n at rest corners x t is e whole h =
    let same : h.here ≡ x = same_Some h.here x (sym h.here_is ∙ is) in
    let far : h.here.dist ≡ x.dist = ap (λ (y : Label). y.dist) same in
    let follow : Follow g x.place rest h.cost = subst (λ (y : Label). Follow g y.place rest h.cost) same h.follow in
    let arrives : last_of x.place rest ≡ h.label.place = subst (λ (y : Label). last_of y.place rest ≡ h.label.place) same h.arrives in
    record {
      label = h.label;
      at = h.is;
      number = at;
      source = x;
      source_at = is;
      no_origin = e;
      by_source = subst (λ (q : Option LabelNo). MatchOption q (IsSource x.by) (IsFrom g ls at x)) e (t at x is);
      rest = rest;
      corners_are = whole;
      cost = h.cost;
      follow = follow;
      arrives = arrives;
      walk = subst (λ (c : ℕ). IsWay g x.place h.label.place c) (zero_plus h.cost) (subst (λ q. IsWay g x.place q (0 + h.cost)) arrives (way_followed g x.place x.place 0 h.cost rest (way_none g x.place) follow));
      dist = omega (arith, h.dist, far);
    }
  where
    zero_plus : (c : ℕ) → 0 + c ≡ c
    zero_plus c = omega arith

-- nothing is gathered at first
pub back_first : (g : Graph) (ls : List Label) (n : ℕ) (corners : List Corner) → n < length ls → corners ≡ [] → IsBack g ls n n (reverse corners)
back_first g ls n corners l e = subst (λ (xs : List Corner). IsBack g ls n n (reverse xs)) (sym e)
    (⊎_elim
    (λ (h : (x : Label) × (n < length ls) × (slice_get ls n ≡ Some x) × (slice_index_or ls n x ≡ x)). back_none g ls n h.0 h.2)
    (λ (h : (length ls ≤ n) × (slice_get ls n ≡ None)). absurd (omega (arith, h.0)))
    (slice_get_cases ls n).1)
