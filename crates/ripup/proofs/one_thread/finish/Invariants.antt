use Rattle.std.proofs.Common.{take, All}
use Rattle.ripup.specs.Progress.{IsDone, IsUnderWay}
use Rattle.ripup.proofs.OrderLemmas.{GoesOn}
use Rattle.ripup.proofs.one_thread.finish.Given as goal

abbrev pub invariant-loop-net : goal.invariant-loop-net
invariant-loop-net l = record {
  under_way : IsUnderWay l.design l.run;
  goes_on : GoesOn l.design l.run.journal.blocks l.initial.run.journal.blocks (take l.net-index l.net-items);
  done : All (IsDone l.run.state) (take l.net-index l.net-items);
}
