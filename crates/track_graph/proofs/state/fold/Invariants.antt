use Rattle.std.proofs.Common.{◌≡◌, take}
use Rattle.track_graph.specs.Conditions.{IsStateOf}
use Rattle.track_graph.specs.States.{state_of}
use Rattle.track_graph.proofs.state.fold.Given as goal

abbrev pub invariant-loop-block : goal.invariant-loop-block
invariant-loop-block l = record { after : l.state ≡ state_of l.design (take l.block-index l.blocks); of_design : IsStateOf l.design l.state }
