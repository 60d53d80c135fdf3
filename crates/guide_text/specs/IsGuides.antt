-- What holds of all guides that are read: numbers are in range, names are names, and no two nets have one name.
use Rattle.std.specs.Prelude.{◌≡◌, ◌≢◌, ℕ, ◌^◌, true, List, All, AllPairs, map}
use Rattle.rt_base.specs.Sides.{Sides}
use Rattle.rt_base.specs.Ranges.{AreSidesWithin}
use Rattle.guide_text.specs.declared.read.Listed.{Listed}
use Rattle.rt_forms.specs.Reading.{is_name_word}

-- a layer's name with a box
abbrev pub Box : Type 0
Box = List ℕ × Sides

-- a net's name with its boxes
abbrev pub Guide : Type 0
Guide = List ℕ × List Box

abbrev pub IsBox : Box → Type 0
IsBox b = (is_name_word b.0 ≡ true) × AreSidesWithin (2 ^ 30) b.1

abbrev pub IsGuide : Guide → Type 0
IsGuide g = (is_name_word g.0 ≡ true) × All IsBox g.1

pub record AreGuides (nets : List Guide) : Type 0 where
  pub all : All IsGuide nets
  pub apart : AllPairs (λ (a b : Guide). a.0 ≢ b.0) nets

-- the nets that were read, and their names
pub record AreListed (l : Listed) : Type 0 where
  pub nets : AreGuides l.nets
  pub names : l.names ≡ map (λ (g : Guide). g.0) l.nets
