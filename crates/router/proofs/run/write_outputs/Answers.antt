use Rattle.router.specs.Words.{asked_by}
use Rattle.router.specs.Runs.{moment_at}
use Rattle.router.proofs.RunLemmas.{ends_said, ends_unput}
use Rattle.router.proofs.run.write_outputs.Goals as goal

pub returns-in-Ok-clause-ends : goal.returns-in-Ok-clause-ends
returns-in-Ok-clause-ends g c = ends_said (asked_by c.args.command.now) c.args.outputs (moment_at g.F.Shelf.told g.F.Shelf.faults g.K.Sink.text g.K.Sink.faults c.args.files.now c.args.out.now) (moment_at g.F.Shelf.told g.F.Shelf.faults g.K.Sink.text g.K.Sink.faults c.put_outputs.new.files c.say_report.new.out) _ (rw (c.as_slice.ensures, c.as_slice-2.ensures) at c.in-Ok.ensures.ok) (rw c.as_slice-in-Ok.ensures at c.say_report.ensures.ends)

pub returns-clause-ends : goal.returns-clause-ends
returns-clause-ends g c = ends_unput (asked_by c.args.command.now) c.args.outputs (moment_at g.F.Shelf.told g.F.Shelf.faults g.K.Sink.text g.K.Sink.faults c.args.files.now c.args.out.now) (moment_at g.F.Shelf.told g.F.Shelf.faults g.K.Sink.text g.K.Sink.faults c.put_outputs.new.files c.unput.new.out) _ _ (rw (c.as_slice.ensures, c.as_slice-2.ensures) at c.in-Err.ensures.err) c.unput.ensures.said c.unput.ensures.blocks
