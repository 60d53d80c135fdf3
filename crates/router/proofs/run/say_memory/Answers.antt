use Rattle.router.specs.Outputs.{sink_at}
use Rattle.router.proofs.RunLemmas.{said_memory, memory_line}
use Rattle.router.proofs.run.say_memory.Goals as goal

pub returns-clause-said : goal.returns-clause-said
returns-clause-said g c = said_memory (sink_at g.K.Sink.text g.K.Sink.faults c.args.out.now) (sink_at g.K.Sink.text g.K.Sink.faults c.say.new.self) c.say.result _ memory_line c.say.ensures.ok c.say.ensures.failed c.say.ensures.part c.say.ensures.memory
