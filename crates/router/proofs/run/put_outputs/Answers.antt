use Rattle.std.proofs.lemmas.Result.{err_from_is_err_and}
use Rattle.router.specs.Words.{asked_by}
use Rattle.router.specs.Outputs.{shelf_at}
use Rattle.router.proofs.RunLemmas.{unput_out, behind_put, put_both}
use Rattle.router.proofs.run.put_outputs.Goals as goal

pub returns-in_err-put-clause-err : goal.returns-in_err-put-clause-err
returns-in_err-put-clause-err g c =
    let p = err_from_is_err_and c.from_residual.result c.from_residual.ensures.1 in
    rw (p.1, p.2) (unput_out (shelf_at g.F.Shelf.told g.F.Shelf.faults c.args.files.now) (shelf_at g.F.Shelf.told g.F.Shelf.faults c.put.new.files) (asked_by c.args.command.now) _ c.args.routed.now c.args.lines.now _ c.as_str.ensures.value c.in_err-put.ensures.err)

pub returns-clause-ok : goal.returns-clause-ok
returns-clause-ok g c = put_both (g.F.Shelf.told c.args.files.now) (g.F.Shelf.told c.put.new.files) (g.F.Shelf.told c.put-2.new.files) (asked_by c.args.command.now) _ _ c.args.routed.now c.args.lines.now _ c.as_str.ensures.value c.as_str-2.ensures.value c.in_ok-put.ensures.ok c.put-2.ensures.ok

pub returns-clause-err : goal.returns-clause-err
returns-clause-err g c = behind_put (shelf_at g.F.Shelf.told g.F.Shelf.faults c.args.files.now) (shelf_at g.F.Shelf.told g.F.Shelf.faults c.put.new.files) (shelf_at g.F.Shelf.told g.F.Shelf.faults c.put-2.new.files) (asked_by c.args.command.now) _ _ c.args.routed.now c.args.lines.now c.put-2.result c.as_str.ensures.value c.as_str-2.ensures.value c.in_ok-put.ensures.ok c.in_ok-put.ensures.count c.put-2.ensures.err
