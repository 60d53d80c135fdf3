-- Cells of the plane, and the buckets that shapes stand in by their cells.
use Rattle.std.specs.Prelude.{◌≡◌, ℕ, ◌+◌, ◌*◌, ◌/◌, ◌%◌, ◌^◌, ◌-◌, ◌<◌, ◌≤◌, ℤ, negsuc, List, [], Contains, length, slice_index_or}
use Rattle.std.specs.Int.{int_gap}
use Rattle.std.specs.List.{flat_map}
use Rattle.rt_base.specs.Sides.{Sides}
use Rattle.rt_base.specs.declared.tech.Shape.{Shape}
use Rattle.shape_grid.specs.declared.size.Size.{Size}
use Rattle.shape_grid.specs.declared.size.Stretch.{Stretch}
use Rattle.shape_grid.specs.declared.size.Reach.{Reach}

-- the number of the cell of side 2 ^ shift that a coordinate of 64 bits is in, counted from the least one
unfoldable pub cell_of : ℤ → ℕ → ℕ
cell_of z shift = int_gap (negsuc (2 ^ 63 - 1)) z / 2 ^ shift

-- the range ends in the cell that it begins in or in the next
abbrev pub IsShort : ℤ → ℤ → ℕ → Type 0
IsShort low high shift = cell_of high shift ≤ cell_of low shift + 1

-- a shape on the layer that spans at most two cells in each direction
pub record Suits (size : Size) (s : Shape) : Type 0 where
  pub layer : s.layer.0 ≡ size.layer.0
  pub wide : IsShort s.rect.xl s.rect.xh size.wide
  pub tall : IsShort s.rect.yl s.rect.yh size.tall

-- each cell of a range, and the one before it, has its column among these, which come round after 2 ^ bits
abbrev pub Covers : Stretch → ℕ → Reach → Type 0
Covers stretch bits reach =
    (cell : ℕ) → stretch.first ≤ cell + 1 → cell ≤ stretch.last → (i : ℕ) × (i < reach.count) × ((reach.first + i) % 2 ^ bits ≡ cell % 2 ^ bits)

-- the bucket of a rectangle: the column and the row of its lower left cell, which come round
abbrev pub bucket_of : Size → ℕ → ℕ → Sides → ℕ
bucket_of size columns rows r = (cell_of r.xl size.wide % 2 ^ columns) * 2 ^ rows + cell_of r.yl size.tall % 2 ^ rows

-- a shape of the size stands in its bucket
pub record Stands (size : Size) (columns rows : ℕ) (s : Shape) (b : ℕ) : Type 0 where
  pub suits : Suits size s
  pub at : b ≡ bucket_of size columns rows s.rect

-- buckets in columns and rows, each shape in its own
pub record AreStanding (size : Size) (columns rows : ℕ) (bs : List (List Shape)) : Type 0 where
  pub wide : size.wide < 64
  pub tall : size.tall < 64
  pub broad : columns ≤ 20
  pub high : rows ≤ 20
  pub many : length bs ≡ 2 ^ columns * 2 ^ rows
  pub stands : (b : ℕ) (s : Shape) → Contains (slice_index_or bs b []) s → Stands size columns rows s b

-- the columns and the rows of the cells that a rectangle is in
abbrev pub side_of : Sides → Size → Stretch
side_of r size = record { first = cell_of r.xl size.wide; last = cell_of r.xh size.wide }

abbrev pub rise_of : Sides → Size → Stretch
rise_of r size = record { first = cell_of r.yl size.tall; last = cell_of r.yh size.tall }

-- a bucket in one of these columns and one of these rows, which come round
pub record Seen (side up : Reach) (columns rows : ℕ) (b : ℕ) : Type 0 where
  pub i : ℕ
  pub j : ℕ
  pub column : i < side.count
  pub row : j < up.count
  pub place : ((side.first + i) % 2 ^ columns) * 2 ^ rows + (up.first + j) % 2 ^ rows ≡ b

-- the shapes of all buckets
abbrev pub all_of : List (List Shape) → List Shape
all_of bs = flat_map (λ b. b) bs

-- the shapes of one size
pub record Kept : Type 0 where
  pub size : Size
  pub shapes : List Shape

-- the shapes of all sizes
abbrev pub shapes_of : List Kept → List Shape
shapes_of tables = flat_map (λ k. k.shapes) tables
