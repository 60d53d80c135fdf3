use Rattle.std.proofs.Common.{◌+◌, List, take, sym, subst}
use Rattle.std.specs.List.{AllZip}
use Rattle.rt_base.specs.declared.tech.Via.{Via}
use Rattle.build.specs.Built.{IsViaSaid}
use Rattle.build.proofs.Steps.{taken_more}
use Rattle.build.proofs.technology.vias.Goals as goal

pub loop-each-preserved : goal.loop-each-preserved
loop-each-preserved c =
    subst (λ (vs : List Via). AllZip (IsViaSaid c.args.tech.now) (take (c.loop-each.each-index + 1) c.args.said.now) vs) (sym c.in_ok-push.ensures.ok)
    (taken_more (IsViaSaid c.args.tech.now) c.args.said.now c.loop-each.each-index c.each-item.result c.loop-each.vias c.in_ok-via.field-0 c.loop-each-test.true c.each-item.is c.loop-each.invariant c.in_ok-via.ensures)
