use Rattle.std.proofs.Common.{◌+◌, List, take, sym, subst}
use Rattle.std.specs.List.{AllZip}
use Rattle.track_graph.specs.declared.design.Net.{Net}
use Rattle.build.specs.Ground.{IsBuiltNet, input_on, system_on}
use Rattle.build.proofs.Steps.{taken_more}
use Rattle.build.proofs.nets.nets.Goals as goal

pub loop-each-preserved : goal.loop-each-preserved
loop-each-preserved c =
    let built = IsBuiltNet (input_on c.args.on.now) (system_on c.args.on.now) in
    subst (λ (ns : List Net). AllZip built (take (c.loop-each.each-index + 1) c.args.said.now) ns) (sym c.in_ok-push.ensures.ok)
    (taken_more built c.args.said.now c.loop-each.each-index c.each-item.result c.loop-each.nets c.in_ok-net.field-0 c.loop-each-test.true c.each-item.is c.loop-each.invariant c.in_ok-net.ensures)
