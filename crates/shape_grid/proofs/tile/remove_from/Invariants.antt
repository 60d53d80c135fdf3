use Rattle.std.proofs.Common.{◌≡◌, Contains}
use Rattle.std.specs.List.{AllWithin}
use Rattle.shape_grid.specs.Cells.{Kept}
use Rattle.shape_grid.proofs.tile.remove_from.Given as goal

abbrev pub invariant-loop-i : goal.invariant-loop-i
invariant-loop-i l =
    record {
      same : l.tables.items ≡ l.fn.tables.items;
      none : AllWithin (λ (t : Kept). Contains t.shapes l.shape → ⊥) l.fn.tables.items 0 l.i;
    }
