use Rattle.std.proofs.Common.{refl}
use Rattle.router.specs.Words.{asked_by}
use Rattle.router.specs.Outputs.{shelf_at, sink_at}
use Rattle.router.specs.Runs.{moment_at}
use Rattle.router.specs.declared.refusal.Refusal.TheVariants.{Memory}
use Rattle.router.proofs.RunLemmas.{runs_refused, runs_ended, ends_from}
use Rattle.router.proofs.run.run_route.Goals as goal

pub returns-in-Err-clause-runs : goal.returns-in-Err-clause-runs
returns-in-Err-clause-runs g c = runs_refused (asked_by c.args.command.now) (moment_at g.F.Shelf.told g.F.Shelf.faults g.K.Sink.text g.K.Sink.faults c.args.files.now c.args.out.now) (moment_at g.F.Shelf.told g.F.Shelf.faults g.K.Sink.text g.K.Sink.faults c.read_design.new.files c.refused.new.out) _ _ c.in-Err.ensures.refusal c.in-Err.ensures.same c.refused.ensures.ends

pub returns-in-Ok-make_outputs-clause-runs : goal.returns-in-Ok-make_outputs-clause-runs
returns-in-Ok-make_outputs-clause-runs g c = runs_ended (asked_by c.args.command.now) (moment_at g.F.Shelf.told g.F.Shelf.faults g.K.Sink.text g.K.Sink.faults c.args.files.now c.args.out.now) (moment_at g.F.Shelf.told g.F.Shelf.faults g.K.Sink.text g.K.Sink.faults c.write_outputs.new.files c.write_outputs.new.out) c.in-Ok.read.text c.in-Ok.read.design c.in-Ok-make_outputs.outputs _ c.in-Ok.ensures.design c.in-Ok.ensures.ready (rw c.as_slice.ensures at c.in-Ok-make_outputs.ensures) (ends_from (asked_by c.args.command.now) c.in-Ok-make_outputs.outputs (shelf_at g.F.Shelf.told g.F.Shelf.faults c.args.files.now) (sink_at g.K.Sink.text g.K.Sink.faults c.args.out.now) (shelf_at g.F.Shelf.told g.F.Shelf.faults c.read_design.new.files) (moment_at g.F.Shelf.told g.F.Shelf.faults g.K.Sink.text g.K.Sink.faults c.write_outputs.new.files c.write_outputs.new.out) _ c.in-Ok.ensures.same c.in-Ok.ensures.count c.write_outputs.ensures.ends)

pub returns-clause-runs : goal.returns-clause-runs
returns-clause-runs g c = runs_refused (asked_by c.args.command.now) (moment_at g.F.Shelf.told g.F.Shelf.faults g.K.Sink.text g.K.Sink.faults c.args.files.now c.args.out.now) (moment_at g.F.Shelf.told g.F.Shelf.faults g.K.Sink.text g.K.Sink.faults c.read_design.new.files c.refused-in-Err-make_outputs.new.out) _ Memory (λ ne. absurd (ne refl)) c.in-Ok.ensures.same c.refused-in-Err-make_outputs.ensures.ends
