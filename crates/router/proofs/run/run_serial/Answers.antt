use Rattle.std.proofs.Common.{refl}
use Rattle.router.specs.Outputs.{shelf_at, sink_at}
use Rattle.router.specs.Runs.{moment_at}
use Rattle.router.specs.Words.{asked_by}
use Rattle.router.proofs.OutcomeLemmas.{answers_exactly}
use Rattle.router.proofs.RunLemmas.{words_refused}
use Rattle.router.proofs.run.run_serial.Goals as goal

pub returns-in-Ok-clause-runs : goal.returns-in-Ok-clause-runs
returns-in-Ok-clause-runs g c = rw c.in-Ok.ensures.says c.run_route.ensures.runs

pub returns-in-Ok-clause-words : goal.returns-in-Ok-clause-words
returns-in-Ok-clause-words g c = rw c.in-Ok.ensures.says tt

pub returns-in-Err-clause-runs : goal.returns-in-Err-clause-runs
returns-in-Err-clause-runs g c = rw c.in-Err.ensures.says tt

pub returns-in-Err-clause-words : goal.returns-in-Err-clause-words
returns-in-Err-clause-words g c = rw c.in-Err.ensures.says (words_refused _ (shelf_at g.F.Shelf.told g.F.Shelf.faults c.args.files.now) (sink_at g.K.Sink.text g.K.Sink.faults c.args.out.now) (sink_at g.K.Sink.text g.K.Sink.faults c.refused.new.out) _ c.refused.ensures.ends)

pub returns-in-Ok-clause-sure_files : goal.returns-in-Ok-clause-sure_files
returns-in-Ok-clause-sure_files g c = rw c.in-Ok.ensures.says c.run_route.ensures.sure_files

pub returns-in-Ok-clause-exact : goal.returns-in-Ok-clause-exact
returns-in-Ok-clause-exact g c = rw c.in-Ok.ensures.says (answers_exactly (asked_by c.in-Ok.command) (moment_at g.F.Shelf.told g.F.Shelf.faults g.K.Sink.text g.K.Sink.faults c.args.files.now c.args.out.now) (moment_at g.F.Shelf.told g.F.Shelf.faults g.K.Sink.text g.K.Sink.faults c.run_route.new.files c.run_route.new.out) c.run_route.result c.run_route.ensures.runs)

pub returns-in-Err-clause-exact : goal.returns-in-Err-clause-exact
returns-in-Err-clause-exact g c = rw c.in-Err.ensures.says tt

pub returns-in-Ok-clause-untouched : goal.returns-in-Ok-clause-untouched
returns-in-Ok-clause-untouched g c = rw c.in-Ok.ensures.says tt

pub returns-in-Err-clause-untouched : goal.returns-in-Err-clause-untouched
returns-in-Err-clause-untouched g c = rw c.in-Err.ensures.says refl
