use Rattle.std.proofs.Common.{◌≡◌, ◌++◌, take, IsPermutation}
use Rattle.shape_grid.specs.Cells.{all_of}
use Rattle.shape_grid.proofs.table.Table.pour.Given as goal

abbrev pub invariant-loop-bucket : goal.invariant-loop-bucket
invariant-loop-bucket l =
    record {
      size : l.into.size ≡ l.fn.into.size;
      kept : IsPermutation (all_of (take l.bucket-index l.bucket-items) ++ l.fn.into.shapes) l.into.shapes;
    }
