-- The shapes of each tile of a grid.
use Rattle.std.specs.Prelude.{◌≡◌, ℕ, ◌*◌, ◌<◌, ◌≤ℤ◌, Bool, IsTrue, ◌↔◌, List, [], ◌∷◌, All, length, filter, slice_index_or}
use Rattle.std.specs.List.Sorted.{IsPermutation}
use Rattle.rt_base.specs.Sides.{Sides}
use Rattle.rt_base.specs.Tiles.{columns_of, rows_of, Meets}
use Rattle.rt_base.specs.declared.grid.Grid.{Grid}
use Rattle.rt_base.specs.declared.tech.Shape.{Shape}

-- exactly those of these shapes of which some point is in the tile, each as often
pub record IsTileOf (g : Grid) (shapes : List Shape) (t : ℕ) (tile : List Shape) : Type 0 where
  pub test : Shape → Bool
  pub meets : All (λ s. IsTrue (test s) ↔ Meets g s.rect t) shapes
  pub are : IsPermutation (filter test shapes) tile

-- one list for each tile of the grid, with the shapes of the tile
pub record AreSplit (g : Grid) (shapes : List Shape) (tiles : List (List Shape)) : Type 0 where
  pub many : length tiles ≡ columns_of g * rows_of g
  pub each : (t : ℕ) → t < length tiles → IsTileOf g shapes t (slice_index_or tiles t [])

-- a list that gets a shape where something holds, and else stays as it is
pub record Gets (Holds : Type 0) (s : Shape) (before after : List Shape) : Type 0 where
  pub yes : Holds → IsPermutation (s ∷ before) after
  pub no : (Holds → ⊥) → after ≡ before

-- the lower left corner of a rectangle isn't above or right of its upper right one
pub record IsUpright (r : Sides) : Type 0 where
  pub wide : r.xl ≤ℤ r.xh
  pub tall : r.yl ≤ℤ r.yh
