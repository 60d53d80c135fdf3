use Rattle.interval_label.specs.Known.{AreEmpty}
use Rattle.interval_label.proofs.rows.empty_rows.Given as goal

abbrev pub invariant-rows : goal.invariant-rows
invariant-rows g l = AreEmpty l.rows l._n
