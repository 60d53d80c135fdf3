-- What holds of every design: its numbers are in range, its parts fit each other, each pin has exactly its entries, and its names can be told apart.
use Rattle.std.specs.Prelude.{◌≡◌, ◌≢◌, ℕ, ◌+◌, ◌*◌, ◌^◌, ◌≤◌, ◌<◌, pos, ◌<ℤ◌, ◌≤ℤ◌, IsTrue, not, List, length, slice_get, Some, All, AllPairs, Any, ◌↔◌, Contains}
use Rattle.rt_base.specs.Sides.{Sides}
use Rattle.rt_base.specs.Ranges.{IsWithin, AreSidesWithin, IsWidth}
use Rattle.rt_base.specs.declared.grid.Grid.{Grid}
use Rattle.rt_base.specs.declared.tech.Layer.{Layer}
use Rattle.rt_base.specs.declared.tech.LayerNo.{LayerNo}
use Rattle.rt_base.specs.declared.tech.Shape.{Shape}
use Rattle.rt_base.specs.declared.tech.Tech.{Tech}
use Rattle.rt_base.specs.declared.tech.Via.{Via}
use Rattle.rt_base.specs.declared.walk.Entry.{Entry}
use Rattle.track_graph.specs.declared.design.Design.{Design}
use Rattle.track_graph.specs.declared.design.Net.{Net}
use Rattle.track_graph.specs.declared.design.Options.{Options}
use Rattle.track_graph.specs.declared.design.Pin.{Pin}
use Rattle.track_graph.specs.declared.design.Tracks.{Tracks}
use Rattle.rt_base.specs.Names.{IsName}
use Rattle.rt_base.specs.Tables.{IsTable}
use Rattle.rt_base.specs.Tiles.{columns_of, rows_of}
use Rattle.track_graph.specs.Entries.{IsEntry}
use Rattle.track_graph.specs.Levels.{TrackSystem, track_system_of, levels, layer_no, is_horizontal}
use Rattle.track_graph.specs.Metal.{Metal, JoinsLevels}

-- the rectangles of a via stand on a level, on the next one up and on a layer between them, and nowhere else
pub record IsUsableAt (tech : Tech) (rects : List Metal) (level : ℕ) : Type 0 where
  pub joins : JoinsLevels tech rects level
  pub cut : Any (λ (r : Metal). (layer_no tech level < r.0.0) × (r.0.0 < layer_no tech (level + 1))) rects
  pub only : All (λ (r : Metal). (layer_no tech level ≤ r.0.0) × (r.0.0 ≤ layer_no tech (level + 1))) rects

-- they do so for some level
abbrev pub IsUsable : Tech → List Metal → Type 0
IsUsable tech rects = (level : ℕ) × IsUsableAt tech rects level

abbrev pub IsLayerOf : Tech → LayerNo → Type 0
IsLayerOf tech layer = layer.0 < length tech.layers

pub record IsViaOf (tech : Tech) (via : Via) : Type 0 where
  pub usable : IsTrue via.usable → IsUsable tech via.rects
  pub layers : All (λ (r : Metal). IsLayerOf tech r.0) via.rects
  pub sides : All (λ (r : Metal). AreSidesWithin (2 ^ 61) r.1) via.rects
  pub usable_sides : IsTrue via.usable → All (λ (r : Metal). AreSidesWithin (2 ^ 60 + 2 ^ 30) r.1) via.rects

pub record IsTech (tech : Tech) : Type 0 where
  pub layer_count : length tech.layers < 2 ^ 32
  pub via_count : length tech.vias < 2 ^ 32
  pub level_count : length (levels tech) ≤ 16
  pub widths : All (λ (l : ℕ × Layer). IsWidth l.1.width) (levels tech)
  pub spacings : All (λ (l : Layer). IsWithin (2 ^ 32) l.spacing) tech.layers
  pub tables : All (λ (l : Layer). IsTable l.table) tech.layers
  pub vias : All (IsViaOf tech) tech.vias

-- the lines of a level ascend
pub record AreTracks (tech : Tech) (tracks : Tracks) : Type 0 where
  pub line_levels : length tracks.lines ≡ length (levels tech)
  pub step_levels : length tracks.largest_step ≡ length (levels tech)
  pub ascending : All (λ lines. AllPairs (λ a b. a <ℤ b) lines) tracks.lines
  pub lines : All (λ lines. All (IsWithin (2 ^ 61)) lines) tracks.lines
  pub steps : All (IsWithin (2 ^ 32)) tracks.largest_step

pub record IsGrid (grid : Grid) : Type 0 where
  pub die : AreSidesWithin (2 ^ 32) grid.die
  pub tile : (pos 1 ≤ℤ grid.tile) × (grid.tile ≤ℤ pos (2 ^ 35))
  pub tile_count : columns_of grid * rows_of grid < 2 ^ 32

pub record AreOptions (options : Options) : Type 0 where
  pub via : options.via ≤ 2 ^ 20

-- a shape on a layer, in range
pub record IsMetal (tech : Tech) (m : Metal) : Type 0 where
  pub layer : IsLayerOf tech m.0
  pub sides : AreSidesWithin (2 ^ 32) m.1

pub record IsFixed (tech : Tech) (s : Shape) : Type 0 where
  pub metal : IsMetal tech (s.layer, s.rect)
  pub fixed : IsTrue s.fixed

-- pin k of a net, with exactly its entries
pub record IsPin (g : TrackSystem) (k : ℕ) (pin : Pin) : Type 0 where
  pub rect_count : length pin.rects < 2 ^ 32
  pub rects : All (IsMetal g.tech) pin.rects
  pub entries : (e : Entry) → Contains pin.entries e ↔ IsEntry g k pin.rects e

pub record IsNet (g : TrackSystem) (net : Net) : Type 0 where
  pub pin_count : length net.pins < 2 ^ 32
  pub pins : (k : ℕ) (pin : Pin) → slice_get net.pins k ≡ Some pin → IsPin g k pin
  pub guide : All (λ (box : ℕ × Sides). AreSidesWithin (2 ^ 32) box.1) net.guide

-- neighbouring levels have different directions
abbrev pub Alternate : Tech → Type 0
Alternate tech = (level : ℕ) → level + 1 < length (levels tech) → is_horizontal tech (level + 1) ≡ not (is_horizontal tech level)

-- the names of layers, of nets and of usable vias are names, and no two of a kind are the same
pub record HasNames (d : Design) : Type 0 where
  pub layers : All (λ (l : Layer). IsName l.name) d.tech.layers
  pub layers_differ : AllPairs (λ (a b : Layer). a.name ≢ b.name) d.tech.layers
  pub nets : All (λ (n : Net). IsName n.name) d.nets
  pub nets_differ : AllPairs (λ (a b : Net). a.name ≢ b.name) d.nets
  pub vias : All (λ (v : Via). IsTrue v.usable → IsName v.name) d.tech.vias
  pub vias_differ : AllPairs (λ (a b : Via). IsTrue a.usable → IsTrue b.usable → a.name ≢ b.name) d.tech.vias

pub record IsDesign (d : Design) : Type 0 where
  pub tech : IsTech d.tech
  pub alternate : Alternate d.tech
  pub tracks : AreTracks d.tech d.tracks
  pub line_counts : All (λ lines. length lines ≤ 65536) d.tracks.lines
  pub grid : IsGrid d.grid
  pub options : AreOptions d.options
  pub net_count : length d.nets < 2 ^ 32
  pub nets : All (IsNet (track_system_of d)) d.nets
  pub fixed : All (IsFixed d.tech) d.fixed
  pub names : HasNames d
