-- All look-ups together.
use Rattle.std.specs.Prelude.{◌≡◌, [], unwrap_or}
use Rattle.lef_text.specs.declared.lef.Lef.{Lef}
use Rattle.def_text.specs.declared.def.Def.{Def}
use Rattle.net_guides.specs.declared.index.NetGuides.{NetGuides}
use Rattle.net_guides.specs.Indexes.{IsIndexOf}
use Rattle.cells.specs.Indexes.{AreOwners, AreCells}
use Rattle.build.specs.declared.lookup.Lookup.{Lookup}
use Rattle.build.specs.Indexes.{AreLayerNames}
use Rattle.build.specs.Inputs.{Input}
use Rattle.build.specs.LookUps.{pin_names, net_names}

pub record IsLookup (lef : Lef) (def : Def) (lookup : Lookup) : Type 0 where
  pub are_layer_names : AreLayerNames lef lookup.layers
  pub are_pin_names : lookup.pins ≡ pin_names def.pins
  pub are_net_names : lookup.nets ≡ net_names def.nets
  pub are_owners : AreOwners def.nets lookup.owners
  pub are_cells : AreCells lef.macros def.components lookup.cells

-- the look-ups of guides, of none where there are no guides
abbrev pub IsGuideIndex : Input → NetGuides → Type 0
IsGuideIndex i index = IsIndexOf i.lef.layers (unwrap_or i.guides []) index
