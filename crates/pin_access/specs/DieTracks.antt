-- The tracks of each level in the die, and what is near rectangles on them.
use Rattle.std.specs.Prelude.{◌≡◌, ◌↔◌, ℕ, ◌*◌, ◌^◌, ◌≤◌, ℤ, List, [], ◌∷◌, length, slice_get, Some, Contains, All, Any}
use Rattle.rt_base.specs.declared.walk.Vertex.{Vertex}
use Rattle.track_graph.specs.Levels.{TrackSystem, IsVertex, IsAscending, levels, layer_no, is_horizontal, line_of, along}
use Rattle.track_graph.specs.Metal.{Metal}
use Rattle.pin_access.specs.declared.die_tracks.DieLevel.{DieLevel}
use Rattle.pin_access.specs.declared.die_tracks.DieTracks.{DieTracks}
use Rattle.pin_access.specs.Bands.{IsNearBand, band_of}
use Rattle.pin_access.specs.Nearby.{steps_of}

-- at most 65,536 lines and twice as many positions, each once
pub record IsDieLevel (l : DieLevel) : Type 0 where
  pub lines : IsAscending l.lines
  pub positions : IsAscending l.positions
  pub line_count : length l.lines ≤ 65536
  pub position_count : length l.positions ≤ 131072
  pub step : l.step ≤ 2 ^ 32

pub record AreDieLevels (t : DieTracks) : Type 0 where
  pub few : length t.levels ≤ 16
  pub each : All IsDieLevel t.levels

-- the layer of a level, its direction and its largest step, and its lines and positions in the die
pub record IsDieLevelOf (g : TrackSystem) (level : ℕ) (l : DieLevel) : Type 0 where
  pub layer : l.layer ≡ layer_no g.tech level
  pub horizontal : l.horizontal ≡ is_horizontal g.tech level
  pub step : l.step ≡ steps_of g 1 level
  pub exactly : (v : Vertex) → v.level ≡ level → IsVertex g v ↔ (Contains l.lines (line_of g.tech level v.point) × Contains l.positions (along g.tech level v.point))

-- the tracks in the die, level by level
pub record AreDieTracks (g : TrackSystem) (t : DieTracks) : Type 0 where
  pub count : length t.levels ≡ length (levels g.tech)
  pub each : (k : ℕ) (l : DieLevel) → slice_get t.levels k ≡ Some l → IsDieLevelOf g k l

-- a line and a position near a rectangle on the level's layer
abbrev pub IsNearOn : DieLevel → ℕ → ℤ → ℤ → Metal → Type 0
IsNearOn l reach line z m = (m.0.0 ≡ l.layer) × IsNearBand reach line z (band_of l.horizontal m.1)

-- a line and a position of the level, near one of these rectangles
pub record IsNearLevel (l : DieLevel) (reach : ℕ) (rects : List Metal) (p : ℤ × ℤ) : Type 0 where
  pub line : Contains l.lines p.0
  pub position : Contains l.positions p.1
  pub near : Any (IsNearOn l reach p.0 p.1) rects

-- the number of an element of a list, and something of that element
abbrev pub IsOf : {X Y : Type 0} → List X → (X → Y → Type 0) → ℕ × Y → Type 0
IsOf {X} xs P t = (x : X) × (slice_get xs t.0 ≡ Some x) × P x t.1

-- a level, a line and a position of it, at most so many of the level's largest steps from one of these rectangles
abbrev pub IsNearSome : List DieLevel → ℕ → List Metal → ℕ × (ℤ × ℤ) → Type 0
IsNearSome ls steps rects = IsOf ls (λ (l : DieLevel). IsNearLevel l (steps * l.step) rects)

-- the number of a rectangle, and a level, a line and a position at most twice the level's largest step from it
abbrev pub IsNearOne : List DieLevel → List Metal → ℕ × (ℕ × (ℤ × ℤ)) → Type 0
IsNearOne ls rects = IsOf rects (λ (m : Metal). IsNearSome ls 2 (m ∷ []))
