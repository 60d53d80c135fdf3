use Rattle.interval_label.proofs.RowsOf.{added}
use Rattle.interval_label.proofs.rows.add_to.Goals as goal

pub returns : goal.returns
returns g c = record { ok = added c.rows.inside.items.items c.args.rows.now c.args.no.0 c.index_mut.result.now c.push.new.self c.args.item c.rows.view_is c.requires c.index_mut.ensures.value c.in_ok-push.ensures.ok }
