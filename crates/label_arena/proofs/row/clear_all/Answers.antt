use Rattle.std.proofs.Common.{arith}
use Rattle.std.proofs.lemmas.List.{length-map, length-set}
use Rattle.label_arena.proofs.Sorting.{rows_cleared, all_cleared}
use Rattle.label_arena.specs.Rows.{rows_of}
use Rattle.label_arena.proofs.row.clear_all.Goals as goal

pub rows-preserved : goal.rows-preserved
rows-preserved c = record {
  wide = omega (arith, length-set c.rows.rows.items c.rows.i c.clear.new.self);
  done = rows_cleared c.rows.rows.items c.rows.i c.clear.new.self (omega arith) c.clear.ensures.items c.rows.invariant.done;
}

pub returns : goal.returns
returns c = all_cleared (rows_of c.rows.rows.items) c.rows.i (omega (arith, length-map c.rows.rows.items (λ r. r.items))) c.rows.invariant.done
