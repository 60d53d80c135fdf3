-- Rows of shapes that one technology says the same of.
use Rattle.std.specs.Prelude.{◌^◌, List, Option, map, All}
use Rattle.std.specs.List.{flat_map}
use Rattle.rt_base.specs.Ranges.{AreSidesWithin}
use Rattle.rt_base.specs.Sides.{Sides}
use Rattle.rt_base.specs.declared.tech.LayerNo.{LayerNo}
use Rattle.rt_base.specs.declared.tech.Shape.{Shape}
use Rattle.legality.specs.declared.rule.WireRule.{WireRule}
use Rattle.legality.specs.Gaps.{IsInside}
use Rattle.legality.specs.Rules.{Kept}

-- the shapes of a layer beside which one rule is kept
pub record RowOf : Type 0 where
  pub layer : LayerNo
  pub rule : Option WireRule
  pub shapes : List Shape

-- a shape in range that lies in a rectangle
pub record StandsIn (hull : Sides) (s : Shape) : Type 0 where
  pub inside : IsInside hull s.rect
  pub within : AreSidesWithin (2 ^ 61) s.rect

-- all of these shapes do
abbrev pub IsHull : Sides → List Shape → Type 0
IsHull hull shapes = All (StandsIn hull) shapes

-- the shapes of all bands
abbrev pub in_bands : List (List Shape) → List Shape
in_bands bands = flat_map (λ b. b) bands

-- a shape with the rule of its row
abbrev pub kept_in : Option WireRule → Shape → Kept
kept_in rule s = record { shape = s; rule = rule }

abbrev pub row_kept : RowOf → List Kept
row_kept r = map (kept_in r.rule) r.shapes

-- the shapes of all rows
abbrev pub all_kept : List RowOf → List Kept
all_kept rows = flat_map row_kept rows
