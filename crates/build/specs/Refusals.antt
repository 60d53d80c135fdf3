-- The first reason why an input and options give no design.
use Rattle.std.specs.Prelude.{◌≡◌, ℕ, Some, None}
use Rattle.rt_base.specs.declared.tech.Tech.{Tech}
use Rattle.track_graph.specs.declared.design.Design.{Design}
use Rattle.track_graph.specs.declared.design.Options.{Options}
use Rattle.track_graph.specs.declared.design.Tracks.{Tracks}
use Rattle.build.specs.declared.error.BuildError.{BuildError}
use Rattle.pin_access.specs.EntryOrder.{system_of}
use Rattle.build.specs.Built.{grid_of, fixed_of, IsTechOf, IsDesignOf}
use Rattle.build.specs.EntryCounts.{NetsHave}
use Rattle.build.specs.Inputs.{Input}
use Rattle.build.specs.TrackLines.{AreTracksOf}
use Rattle.build.specs.Faults.{name_fault, count_fault, size_by, size_fault}

-- what is built before sizes are looked at, and how many entries the pins of all nets have
pub record Parts (i : Input) : Type 0 where
  pub tech : Tech
  pub tech_of : IsTechOf i tech
  pub tracks : Tracks
  pub tracks_of : AreTracksOf i.lef i.def tracks
  pub entries : ℕ
  pub entries_of : NetsHave i (system_of tech tracks i.def.die) i.def.nets entries

-- a fault of units, names, tracks or layers, else one of the counts of the texts, else one of the sizes of the design
pub data Refuses (i : Input) (options : Options) : BuildError → Type 0 where
  by_name : {e : BuildError} → name_fault i ≡ Some e → Refuses i options e
  by_count : {e : BuildError} → name_fault i ≡ None → (tech : Tech) → IsTechOf i tech → count_fault i tech ≡ Some e → Refuses i options e
  by_size : {e : BuildError} → name_fault i ≡ None → (p : Parts i) → count_fault i p.tech ≡ None → size_by (grid_of i.def options) (fixed_of i) p.entries ≡ Some e → Refuses i options e

-- nothing refuses this design
pub record Passes (i : Input) (options : Options) (d : Design) : Type 0 where
  pub names : name_fault i ≡ None
  pub counts : count_fault i d.tech ≡ None
  pub sizes : size_fault (grid_of i.def options) (fixed_of i) d.nets ≡ None

-- what an input and options give: their design, where nothing refuses it
pub record Gives (i : Input) (options : Options) (d : Design) : Type 0 where
  pub design : IsDesignOf i options d
  pub passes : Passes i options d
