use Rattle.std.proofs.Common.{◌∙◌, ◌+◌, ap, sym, sum_by, take, ℕ}
use Rattle.std.specs.List.{enumerate_from}
use Rattle.report.specs.Lines.{net_wire}
use Rattle.report.proofs.Lists.{sum-enumerate, take_all-enumerate}
use Rattle.report.proofs.wires.wire.Goals as goal

pub loop-i-preserved : goal.loop-i-preserved
loop-i-preserved c =
    c.in_ok-total.ensures
    ∙ ap (λ (n : ℕ). n + c.in_ok-net_wire.field-0) c.loop-i.invariant
    ∙ ap (λ (n : ℕ). sum_by (net_wire c.args.design.now) (take c.loop-i.i (enumerate_from 0 c.args.states.now)) + n) c.in_ok-net_wire.ensures
    ∙ sym (sum-enumerate (net_wire c.args.design.now) c.args.states.now c.loop-i.i c.index-states-i.result c.loop-i-test.true c.index-states-i.is)

pub returns : goal.returns
returns c = c.loop-i.invariant ∙ ap (sum_by (net_wire c.args.design.now)) (take_all-enumerate c.args.states.now c.loop-i.i c.loop-i-test.false)
