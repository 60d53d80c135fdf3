use Rattle.std.proofs.Common.{◌∙◌, sym, subst, ap}
use Rattle.std.proofs.lemmas.List.{take_all}
use Rattle.track_graph.specs.Rules.{BreaksNoRule}
use Rattle.track_graph.specs.States.{state_of}
use Rattle.track_graph.proofs.Rules.{IsHistory-breaks_no_rule}
use Rattle.track_graph.proofs.state.fold.Goals as goal

pub returns-clause-rules : goal.returns-clause-rules
returns-clause-rules c = λ history.
    subst (BreaksNoRule c.args.design.now)
    (sym (c.loop-block.invariant.after ∙ ap (state_of c.args.design.now) (take_all c.loop-block.block-index c.args.blocks.now c.loop-block-test.false)))
    (IsHistory-breaks_no_rule c.args.design.now c.args.blocks.now history)
