-- What nets stand on, as the code keeps it.
use Rattle.std.specs.Prelude.{◌≡◌, ◌≤◌, ℤ, List, length, All}
use Rattle.rt_base.specs.declared.tech.Tech.{Tech}
use Rattle.track_graph.specs.declared.design.Net.{Net}
use Rattle.track_graph.specs.declared.design.Tracks.{Tracks}
use Rattle.track_graph.specs.Designs.{IsTech, AreTracks, IsNet}
use Rattle.track_graph.specs.Levels.{TrackSystem}
use Rattle.def_text.specs.declared.def.DefNet.{DefNet}
use Rattle.pin_access.specs.EntryOrder.{system_of}
use Rattle.net_guides.specs.declared.index.NetGuides.{NetGuides}
use Rattle.build.specs.declared.lookup.Lookup.{Lookup}
use Rattle.build.specs.declared.nets.Ground.{Ground}
use Rattle.build.specs.Built.{IsNetOf, fixed_of}
use Rattle.build.specs.Indexing.{IsLookup, IsGuideIndex}
use Rattle.build.specs.Inputs.{Input, IsInput, input_by}
use Rattle.build.specs.TrackLines.{routing_layers}

abbrev pub input_on : Ground → Input
input_on on = input_by on.given.now

abbrev pub system_on : Ground → TrackSystem
system_on on = system_of on.tech.now on.tracks.now (input_on on).def.die

-- the technology and the tracks, and what is found by name
pub record AreGrounds (i : Input) (known : Lookup) (index : NetGuides) (tech : Tech) (tracks : Tracks) : Type 0 where
  pub is_input : IsInput i
  pub is_lookup : IsLookup i.lef i.def known
  pub is_index : IsGuideIndex i index
  pub is_tech : IsTech tech
  pub same_layers : tech.layers ≡ i.lef.layers
  pub are_tracks : AreTracks tech tracks
  pub few_lines : All (λ (lines : List ℤ). length lines ≤ 65536) tracks.lines
  pub few_shapes : length (fixed_of i) ≤ 4194304
  pub few_levels : length (routing_layers tech.layers) ≤ 16

abbrev pub IsGround : Ground → Type 0
IsGround on = AreGrounds (input_on on) on.known.now on.guides.now on.tech.now on.tracks.now

-- a net as DEF and the guides say it, that fits the design
pub record IsBuiltNet (i : Input) (g : TrackSystem) (said : DefNet) (net : Net) : Type 0 where
  pub is_net_of : IsNetOf i g said net
  pub is_net : IsNet g net
