-- The lines of a level, and how many there may be.
use Rattle.std.specs.Prelude.{◌≡◌, ◌≤◌, ℤ, List, IsTrue, Any, length, map}
use Rattle.std.specs.List.{AllZip}
use Rattle.rt_base.specs.declared.tech.Layer.{Layer}
use Rattle.rt_base.specs.declared.tech.Tech.{Tech}
use Rattle.track_graph.specs.declared.design.Tracks.{Tracks}
use Rattle.def_text.specs.declared.def.Def.{Def}
use Rattle.def_text.specs.declared.def.TrackRow.{TrackRow}
use Rattle.build.specs.TrackLines.{is_used, HasLine, AreLinesOf, line_count, largest_step, routing_layers}

-- a statement that is used for a layer has this line
abbrev pub HasSomeLine : List TrackRow → Layer → ℤ → Type 0
HasSomeLine rows l z = Any (λ (row : TrackRow). IsTrue (is_used l row) × HasLine row z) rows

-- the lines of a layer, at most as many as the statements say
pub record IsLevel (rows : List TrackRow) (l : Layer) (zs : List ℤ) : Type 0 where
  pub lines : AreLinesOf rows l zs
  pub count : length zs ≤ line_count l rows

-- the tracks of each level, with its largest step
pub record AreLevels (def : Def) (tech : Tech) (tracks : Tracks) : Type 0 where
  pub lines : AllZip (IsLevel def.tracks) (routing_layers tech.layers) tracks.lines
  pub steps : tracks.largest_step ≡ map (largest_step def.tracks) (routing_layers tech.layers)
