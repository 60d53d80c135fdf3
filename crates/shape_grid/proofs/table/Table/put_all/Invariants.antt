use Rattle.std.proofs.Common.{◌≡◌, ◌++◌, take, IsPermutation}
use Rattle.shape_grid.proofs.table.Table.put_all.Given as goal

abbrev pub invariant-loop-shape : goal.invariant-loop-shape
invariant-loop-shape l =
    record {
      size : l.self.size ≡ l.fn.self.size;
      kept : IsPermutation (take l.shape-index l.shapes ++ l.fn.self.shapes) l.self.shapes;
    }
