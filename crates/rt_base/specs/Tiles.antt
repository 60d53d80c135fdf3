-- Tiles of the die: squares of one side from its lower left corner on, numbered from 0, row by row, upwards.
use Rattle.std.specs.Prelude.{◌≡◌, ℕ, ◌+◌, ◌-◌, ◌*◌, ◌/◌, max, min, ℤ, unsigned_abs}
use Rattle.std.specs.Int.{int_gap, div_ceil}
use Rattle.rt_base.specs.declared.geometry.Point.{Point}
use Rattle.rt_base.specs.declared.grid.Grid.{Grid}
use Rattle.rt_base.specs.Sides.{Sides}
use Rattle.rt_base.specs.Geometry.{Holds}

abbrev pub side_of : Grid → ℕ
side_of g = unsigned_abs g.tile

-- how many tiles lie along a length: it divided by the side, rounded up, and at least one
abbrev pub count_along : ℕ → ℕ → ℕ
count_along len side = max (div_ceil len side) 1

-- how many sides z stands above low, rounded down, but at least 0 and at most the last of this count
abbrev pub number_along : ℤ → ℤ → ℕ → ℕ → ℕ
number_along low z side count = min (int_gap low z / side) (count - 1)

abbrev pub columns_of : Grid → ℕ
columns_of g = count_along (int_gap g.die.xl g.die.xh) (side_of g)

abbrev pub rows_of : Grid → ℕ
rows_of g = count_along (int_gap g.die.yl g.die.yh) (side_of g)

abbrev pub column_of : Grid → ℤ → ℕ
column_of g x = number_along g.die.xl x (side_of g) (columns_of g)

abbrev pub row_of : Grid → ℤ → ℕ
row_of g y = number_along g.die.yl y (side_of g) (rows_of g)

-- some point of a rectangle is in the column and the row of the tile with this number
pub record Meets (g : Grid) (s : Sides) (tile : ℕ) : Type 0 where
  pub point : Point
  pub inside : Holds s point
  pub number : row_of g point.y * columns_of g + column_of g point.x ≡ tile
