-- The tiles of a net (tiles after Gester and others 2013, the halo this project's own).
use Rattle.std.specs.Prelude.{◌≡◌, ◌⊎◌, ◌↔◌, ℕ, ℤ, pos, List, [], Any}
use Rattle.rt_base.specs.Sides.{Sides}
use Rattle.rt_base.specs.Tiles.{Meets}
use Rattle.rt_base.specs.declared.geometry.Span.{Span}
use Rattle.rt_base.specs.declared.grid.Grid.{Grid}
use Rattle.track_graph.specs.declared.design.Design.{Design}
use Rattle.track_graph.specs.Conditions.{IsNetOf}
use Rattle.rt_base.specs.Geometry.{grown}
use Rattle.track_graph.specs.Searches.{guide_of}
use Rattle.regions.specs.Halo.{IsHalo}
use Rattle.regions.specs.Spans.{InSpans, AreFull}

-- a box of the net's guide, whatever its level, meets the tile when it is widened by the halo
pub record MeetsGuide (d : Design) (net tile : ℕ) : Type 0 where
  pub halo : ℕ
  pub is_halo : IsHalo d halo
  pub boxes : Any (λ (box : ℕ × Sides). Meets d.grid (grown box.1 (pos halo)) tile) (guide_of d net)

-- a net of the design without a box has tile 0 alone, and a net that the design lacks has none
abbrev pub IsTileOf : Design → ℕ → ℕ → Type 0
IsTileOf d net tile = MeetsGuide d net tile ⊎ (IsNetOf d net × (guide_of d net ≡ []) × (tile ≡ 0))

-- z is the number of a tile that the rectangle meets
abbrev pub IsMet : Grid → Sides → ℤ → Type 0
IsMet g s z = (tile : ℕ) × (z ≡ pos tile) × Meets g s tile

-- to some spans those of the numbers of the tiles that the rectangle meets are added
pub record AddsMet (g : Grid) (s : Sides) (old new : List Span) : Type 0 where
  pub full : AreFull old → AreFull new
  pub exact : (z : ℤ) → InSpans new z ↔ (InSpans old z ⊎ IsMet g s z)

-- the tiles that one of these boxes meets when it is widened
abbrev pub AreMet : Grid → ℤ → List (ℕ × Sides) → ℤ → Type 0
AreMet g by boxes z = Any (λ (box : ℕ × Sides). IsMet g (grown box.1 by) z) boxes
