use Rattle.std.proofs.Common.{refl, inl, inr}
use Rattle.router.specs.Outputs.{sink_at}
use Rattle.router.proofs.RunLemmas.{memory_behind}
use Rattle.router.proofs.run.say_report.Goals as goal

pub returns-in-Err-Failed-clause-ends : goal.returns-in-Err-Failed-clause-ends
returns-in-Err-Failed-clause-ends g c =
    let e = rw c.in-Err-Failed.field-0-is at c.in-Err-Failed.ensures in
    inr (inl (refl, refl, e.failed refl, e.part refl))

pub returns-in-Err-Memory-clause-ends : goal.returns-in-Err-Memory-clause-ends
returns-in-Err-Memory-clause-ends g c =
    let e = rw c.in-Err-Memory.field-0-is at c.in-Err-Memory.ensures in
    inr (inr (refl, c.new.ensures, memory_behind (sink_at g.K.Sink.text g.K.Sink.faults c.args.out.now) (sink_at g.K.Sink.text g.K.Sink.faults c.say.new.self) (sink_at g.K.Sink.text g.K.Sink.faults c.say_memory.new.out) (e.memory refl) e.count c.say_memory.ensures.said))
