-- What is known of an input before its design is put together.
use Rattle.std.specs.Prelude.{◌≡◌, ◌≤◌, ◌^◌, pos, ◌≤ℤ◌, List, None, All, length}
use Rattle.rt_base.specs.declared.tech.Shape.{Shape}
use Rattle.rt_base.specs.declared.tech.Tech.{Tech}
use Rattle.track_graph.specs.declared.design.Options.{Options}
use Rattle.track_graph.specs.Designs.{IsTech}
use Rattle.net_guides.specs.declared.index.NetGuides.{NetGuides}
use Rattle.build.specs.declared.lookup.Lookup.{Lookup}
use Rattle.build.specs.Built.{IsTechOf, fixed_of}
use Rattle.build.specs.Faults.{name_fault, count_fault}
use Rattle.build.specs.Indexing.{IsLookup, IsGuideIndex}
use Rattle.build.specs.Inputs.{Input, IsInput}
use Rattle.build.specs.Metals.{IsOnLayer}

-- options in range
pub record AreChosen (options : Options) : Type 0 where
  pub via : options.via ≤ 2 ^ 20
  pub least : pos 1 ≤ℤ options.tile
  pub most : options.tile ≤ℤ pos (2 ^ 35)

-- an input under options in range, with what is found by name
pub record IsAsked (i : Input) (options : Options) (known : Lookup) (index : NetGuides) : Type 0 where
  pub is_input : IsInput i
  pub chosen : AreChosen options
  pub known_is : IsLookup i.lef i.def known
  pub index_is : IsGuideIndex i index

-- the technology and the shapes of an input
pub record AreDrawn (i : Input) (drawn : Tech × List Shape) : Type 0 where
  pub tech_of : IsTechOf i drawn.0
  pub is_tech : IsTech drawn.0
  pub shapes : drawn.1 ≡ fixed_of i
  pub layers : All (IsOnLayer (length i.lef.layers)) drawn.1

-- its names and counts pass, and this is its technology
pub record Stands (i : Input) (options : Options) (known : Lookup) (index : NetGuides) (tech : Tech) : Type 0 where
  pub asked : IsAsked i options known index
  pub tech_of : IsTechOf i tech
  pub is_tech : IsTech tech
  pub layers : All (IsOnLayer (length i.lef.layers)) (fixed_of i)
  pub names : name_fault i ≡ None
  pub counts : count_fault i tech ≡ None
