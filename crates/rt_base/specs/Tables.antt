-- Tables of spacings by run length and width (LEF 5.8, LAYER: SPACINGTABLE PARALLELRUNLENGTH).
use Rattle.std.specs.Prelude.{◌≡◌, ℕ, ◌≤◌, ℤ, ◌<ℤ◌, List, length, All, AllPairs}
use Rattle.rt_base.specs.declared.tech.SpacingTable.{SpacingTable}

-- a spacing for each of so many lengths, of which there is at least one
pub record IsTableRow (lengths : ℕ) (row : ℤ × List ℤ) : Type 0 where
  pub some : 1 ≤ lengths
  pub full : length row.1 ≡ lengths

-- lengths and widths ascend strictly; a layer without a table has no length and no row
pub record IsTable (t : SpacingTable) : Type 0 where
  pub lengths : AllPairs (λ a b. a <ℤ b) t.lengths
  pub widths : AllPairs (λ (a b : ℤ × List ℤ). a.0 <ℤ b.0) t.rows
  pub rows : All (IsTableRow (length t.lengths)) t.rows
