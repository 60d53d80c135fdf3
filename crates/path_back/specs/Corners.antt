-- The way back from a label to a source.
use Rattle.std.specs.Prelude.{◌≡◌, ℕ, ◌+◌, List, [], ◌∷◌, slice_get, Some, None}
use Rattle.label_arena.specs.declared.place.Place.{Place}
use Rattle.label_arena.specs.declared.place.Label.{Label}
use Rattle.label_arena.specs.Lists.{Graph}
use Rattle.label_arena.specs.Plain.{IsWay}
use Rattle.label_arena.specs.Traces.{IsSource, Leads}
use Rattle.path_back.specs.declared.corner.Corner.{Corner}

-- corners that follow each other from a place on, each reached by a slide and what it names, and what they cost
abbrev pub Follow : Graph → Place → List Corner → ℕ → Type 0
Follow g p [] c = c ≡ 0
Follow g p (x ∷ xs) c = (d : ℕ) × (e : ℕ) × Leads g x.by p x.place d × Follow g x.place xs e × (c ≡ d + e)

-- where they end
abbrev pub last_of : Place → List Corner → Place
last_of p [] = p
last_of p (x ∷ xs) = last_of x.place xs

abbrev pub corner_of : Label → Corner
corner_of x = record { place = x.place; by = x.by }

-- from a source's label corners follow each other to the place of label n; they are a walk of the plain graph, whose cost and the source's are the label's distance
pub record IsWayBack (g : Graph) (ls : List Label) (n : ℕ) (corners : List Corner) : Type 0 where
  pub label : Label
  pub at : slice_get ls n ≡ Some label
  pub number : ℕ
  pub source : Label
  pub source_at : slice_get ls number ≡ Some source
  pub no_origin : source.origin ≡ None
  pub by_source : IsSource source.by
  pub rest : List Corner
  pub corners_are : corners ≡ corner_of source ∷ rest
  pub cost : ℕ
  pub follow : Follow g source.place rest cost
  pub arrives : last_of source.place rest ≡ label.place
  pub walk : IsWay g source.place label.place cost
  pub dist : label.dist ≡ source.dist + cost
