use Rattle.std.proofs.Common.{take}
use Rattle.search.specs.Changes.{HasSame}
use Rattle.search.specs.Views.{StandsFor}
use Rattle.track_graph.specs.States.{emptied}
use Rattle.track_graph.specs.declared.history.State.{State}
use Rattle.search.proofs.view.View.empty_all.Given as goal

abbrev pub invariant-loop-net : goal.invariant-loop-net
invariant-loop-net l =
    record {
      stands : (s : State) → StandsFor l.design s l.fn.self → StandsFor l.design (emptied s (take l.net-index l.nets)) l.self;
      same : HasSame l.fn.self l.self;
    }
