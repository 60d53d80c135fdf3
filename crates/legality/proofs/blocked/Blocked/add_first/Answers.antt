use Rattle.legality.specs.Rows.{row_kept, kept_in}
use Rattle.legality.proofs.RowLemmas.{one_part, row_first}
use Rattle.legality.proofs.blocked.Blocked.add_first.Goals as goal

pub returns-clause-ok : goal.returns-clause-ok
returns-clause-ok c =
    rw (← c.self.view_is, c.in_ok-push.ensures.items)
    (one_part row_kept c.self.inside.rows.items c.add.new.self (kept_in c.args.rule c.args.shape.now) (row_first c.new-row.result c.add.new.self c.args.shape.now.layer c.args.rule c.args.shape.now c.new-row.ensures c.in_ok-add.ensures.rule c.in_ok-add.ensures.ok))
