use Rattle.std.proofs.Common.{◌≡◌, Contains}
use Rattle.std.specs.List.{AllWithin}
use Rattle.legality.specs.Rows.{RowOf}
use Rattle.legality.proofs.blocked.remove_from.Given as goal

abbrev pub invariant-loop-i : goal.invariant-loop-i
invariant-loop-i l =
    record {
      same : l.rows.items ≡ l.fn.rows.items;
      none : AllWithin (λ (r : RowOf). Contains r.shapes l.shape → ⊥) l.fn.rows.items 0 l.i;
    }
