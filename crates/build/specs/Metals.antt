-- Wiring that was read, as the code keeps it.
use Rattle.std.specs.Prelude.{◌≡◌, ◌<◌, ◌+◌, ◌^◌, ℕ, true, false, IsTrue, List, length, map, All}
use Rattle.rt_base.specs.declared.tech.Owner.TheVariants.{Net as OfNet}
use Rattle.rt_base.specs.declared.tech.Shape.{Shape}
use Rattle.rt_base.specs.declared.tech.Via.{Via}
use Rattle.track_graph.specs.Metal.{Metal}
use Rattle.def_wires.specs.Names.{AreNamesOf}
use Rattle.def_wires.specs.Sound.{IsOn, IsTech}
use Rattle.fixed_wires.specs.declared.vias.WireTech.{WireTech}
use Rattle.cells.specs.Cells.{fixed_shapes}
use Rattle.build.specs.declared.wires.WireMetal.{WireMetal}
use Rattle.build.specs.Inputs.{Input}
use Rattle.build.specs.Wires.{wiring_tech, metal_of_net}

-- what wiring names, with look-ups
pub record IsWireTech (i : Input) (on : WireTech) : Type 0 where
  pub tech : on.tech ≡ wiring_tech i
  pub names : AreNamesOf on.names on.tech
  pub fits : IsTech on.tech

-- rectangles on layers of LEF
abbrev pub AreOn : Input → List Metal → Type 0
AreOn i metals = All (IsOn (length i.lef.layers) (2 ^ 62)) metals

-- the rectangles of each special net and of each net
pub record IsWireMetal (i : Input) (metal : WireMetal) : Type 0 where
  pub special : metal.special ≡ map (metal_of_net i true) i.def.special
  pub nets : metal.nets ≡ map (metal_of_net i false) i.def.nets
  pub special_on : All (AreOn i) metal.special
  pub nets_on : All (AreOn i) metal.nets

-- the vias that wiring may name, and the rectangles of the wiring
pub record AreWires (i : Input) (read : List Via × WireMetal) : Type 0 where
  pub vias : read.0 ≡ (wiring_tech i).vias
  pub few : length read.0 < 2 ^ 32
  pub vias_on : All (λ (v : Via). All (IsOn (length i.lef.layers) (2 ^ 60 + 2 ^ 30)) v.rects) read.0
  pub metal : IsWireMetal i read.1

-- the shapes of the wiring of the net with this number
abbrev pub wire_shapes : ℕ × List Metal → List Shape
wire_shapes m = fixed_shapes (OfNet m.0) m.1

-- a shape of the input on one of so many layers
abbrev pub IsOnLayer : ℕ → Shape → Type 0
IsOnLayer layers s = (s.layer.0 < layers) × IsTrue s.fixed
