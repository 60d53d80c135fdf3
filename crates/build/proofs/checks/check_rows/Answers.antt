use Rattle.build.specs.Faults.{row_fault}
use Rattle.build.proofs.FirstFaults.{told_fault, first_at, none_more}
use Rattle.build.proofs.checks.check_rows.Goals as goal

pub returns-in_err-check_row : goal.returns-in_err-check_row
returns-in_err-check_row c =
    told_fault c.from_residual.result c.in_err-check_row.field-0.0 _ _ c.from_residual.ensures.1 c.in_err-check_row.ensures
    (first_at (row_fault c.args.layers.now) c.args.rows.now c.loop-row.row-index c.row-item.result c.in_err-check_row.field-0.0 c.loop-row-test.true c.row-item.is c.loop-row.invariant)

pub loop-row-preserved : goal.loop-row-preserved
loop-row-preserved c = none_more (row_fault c.args.layers.now) c.args.rows.now c.loop-row.row-index c.row-item.result c.loop-row-test.true c.row-item.is c.loop-row.invariant c.in_ok-check_row.ensures
