-- Track lines: the union of the TRACKS statements of a layer in its own direction (DEF 5.8, TRACKS).
use Rattle.std.specs.Prelude.{◌≡◌, ℕ, ◌*◌, ◌<◌, ℤ, pos, ◌+ℤ◌, ◌*ℤ◌, ◌<ℤ◌, List, Bool, not, if◌then◌else◌, nat_lt, IsTrue, ◌↔◌, map, filter, fold, sum_by, count_by, bytes_eq, AllPairs, Any, Contains, Option, Some, None, option_map, option_and_then, unwrap_or}
use Rattle.std.specs.Int.{int_max}
use Rattle.std.specs.List.{find, AllZip}
use Rattle.rt_base.specs.declared.tech.Layer.{Layer}
use Rattle.track_graph.specs.declared.design.Tracks.{Tracks}
use Rattle.lef_text.specs.declared.lef.Lef.{Lef}
use Rattle.def_text.specs.declared.def.Def.{Def}
use Rattle.def_text.specs.declared.def.TrackRow.{TrackRow}

-- how often these names name a layer; a statement without LAYER names every routing layer once
abbrev pub times_named : List ℕ → Option (List (List ℕ)) → ℕ
times_named name None = 1
times_named name (Some names) = count_by (bytes_eq name) names

-- the lines of a statement, vertical ones for X, run in the layer's own direction
abbrev pub runs_along : Layer → TrackRow → Bool
runs_along l row = if row.x then not l.horizontal else l.horizontal

-- how often a statement is used for a routing layer
abbrev pub times_used : Layer → TrackRow → ℕ
times_used l row = if runs_along l row then times_named l.name row.layers else 0

abbrev pub is_used : Layer → TrackRow → Bool
is_used l row = nat_lt 0 (times_used l row)

-- how many lines the statements of a layer say, equal lines counted each
abbrev pub line_count : Layer → List TrackRow → ℕ
line_count l rows = sum_by (λ (row : TrackRow). times_used l row * row.count) rows

-- first, first + step, .., so many as count
pub record HasLine (row : TrackRow) (z : ℤ) : Type 0 where
  pub k : ℕ
  pub below : k < row.count
  pub at : z ≡ row.first +ℤ pos k *ℤ row.step

-- the union of the lines of the statements used for a layer, ascending
pub record AreLinesOf (rows : List TrackRow) (l : Layer) (zs : List ℤ) : Type 0 where
  pub ascending : AllPairs (λ a b. a <ℤ b) zs
  pub lines : (z : ℤ) → Contains zs z ↔ Any (λ (row : TrackRow). IsTrue (is_used l row) × HasLine row z) rows

-- the largest step of the statements used for a layer, 0 where there is none
abbrev pub largest_step : List TrackRow → Layer → ℤ
largest_step rows l = fold (λ (most : ℤ) (row : TrackRow). if is_used l row then int_max most row.step else most) (pos 0) rows

-- the routing layers, bottom up
abbrev pub routing_layers : List Layer → List Layer
routing_layers layers = filter (λ (l : Layer). l.routing) layers

-- for each level its lines and its largest step
pub record AreTracksOf (lef : Lef) (def : Def) (tracks : Tracks) : Type 0 where
  pub lines : AllZip (AreLinesOf def.tracks) (routing_layers lef.layers) tracks.lines
  pub steps : tracks.largest_step ≡ map (largest_step def.tracks) (routing_layers lef.layers)

-- the first statement that is used for the lowest routing layer
abbrev pub first_row : Lef → Def → Option TrackRow
first_row lef def = option_and_then (λ (l : Layer). find (is_used l) def.tracks) (find (λ (l : Layer). l.routing) lef.layers)

-- 32 steps of that statement, and 2^30 where there is none
abbrev pub default_tile_of : Lef → Def → ℤ
default_tile_of lef def = unwrap_or (option_map (λ (row : TrackRow). pos 32 *ℤ row.step) (first_row lef def)) (pos 1073741824)
