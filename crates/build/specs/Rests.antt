-- The tracks and the nets of a design, and how many entries its pins have.
use Rattle.std.specs.Prelude.{◌≡◌, ℕ, None, Option}
use Rattle.std.specs.List.{AllZip}
use Rattle.rt_base.specs.declared.tech.Tech.{Tech}
use Rattle.track_graph.specs.declared.design.Options.{Options}
use Rattle.track_graph.specs.Levels.{TrackSystem}
use Rattle.pin_access.specs.EntryOrder.{system_of}
use Rattle.build.specs.declared.design.Rest.{Rest}
use Rattle.build.specs.declared.error.BuildError.{BuildError}
use Rattle.build.specs.Built.{fixed_of, grid_of, skipped_of}
use Rattle.build.specs.EntryCounts.{NetsHave}
use Rattle.build.specs.Faults.{size_by}
use Rattle.build.specs.Ground.{IsBuiltNet}
use Rattle.build.specs.Inputs.{Input}
use Rattle.build.specs.Lines.{AreLevels}

-- how many entries there are in all, and what the sizes come to
pub record AreSized (i : Input) (options : Options) (g : TrackSystem) (fault : Option BuildError) : Type 0 where
  pub entries : ℕ
  pub entries_of : NetsHave i g i.def.nets entries
  pub sizes : size_by (grid_of i.def options) (fixed_of i) entries ≡ fault

-- what the design of this technology has beside it and its shapes
pub record IsRest (i : Input) (options : Options) (tech : Tech) (rest : Rest) : Type 0 where
  pub levels : AreLevels i.def tech rest.tracks
  pub nets : AllZip (IsBuiltNet i (system_of tech rest.tracks i.def.die)) i.def.nets rest.nets
  pub sized : AreSized i options (system_of tech rest.tracks i.def.die) None
  pub skipped : rest.skipped ≡ skipped_of i.lef i.def
