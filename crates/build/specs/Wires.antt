-- The wiring that DEF brings along (DEF 5.8: VIAS, SPECIALNETS and NETS).
use Rattle.std.specs.Prelude.{ℕ, List, Bool, true, false, bytes_eq, position}
use Rattle.rt_base.specs.declared.tech.Owner.{Owner}
use Rattle.rt_base.specs.declared.tech.Owner.TheVariants.{Net as OfNet}
use Rattle.rt_base.specs.declared.tech.Shape.{Shape}
use Rattle.rt_base.specs.declared.tech.Tech.{Tech}
use Rattle.track_graph.specs.Metal.{Metal}
use Rattle.lef_text.specs.declared.lef.Lef.{Lef}
use Rattle.def_text.specs.declared.def.DefNet.{DefNet}
use Rattle.fixed_wires.specs.FixedWires.{wire_tech, wires_metal}
use Rattle.cells.specs.Cells.{fixed_shapes}
use Rattle.cells.specs.Owners.{owner_from}
use Rattle.build.specs.Inputs.{Input}
use Rattle.build.specs.LookUps.{net_names}

-- LEF's layers and vias as LEF says them
abbrev pub tech_said : Lef → Tech
tech_said lef = record { layers = lef.layers; vias = lef.vias }

-- what wiring names: LEF's layers and vias, and after these the vias of DEF
abbrev pub wiring_tech : Input → Tech
wiring_tech i = wire_tech (tech_said i.lef) i.text i.tokens i.def.vias

-- the rectangles that the wiring of a net means, where special of a net of SPECIALNETS
abbrev pub metal_of_net : Input → Bool → DefNet → List Metal
metal_of_net i special net = wires_metal (wiring_tech i) i.text i.tokens special net.wiring

-- whose the wiring of a special net is: the net's of NETS with its name, or nobody's
abbrev pub named_owner : List DefNet → List ℕ → Owner
named_owner nets name = owner_from (position (bytes_eq name) (net_names nets))

-- the shapes of the wiring of a special net
abbrev pub special_shapes : Input → DefNet → List Shape
special_shapes i net = fixed_shapes (named_owner i.def.nets net.name) (metal_of_net i true net)

-- the shapes of the wiring of a net of NETS, which has this number
abbrev pub wired_shapes : Input → ℕ × DefNet → List Shape
wired_shapes i net = fixed_shapes (OfNet net.0) (metal_of_net i false net.1)
