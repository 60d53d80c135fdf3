use Rattle.std.proofs.Common.{IsTrue}
use Rattle.rt_base.specs.declared.tech.Via.{Via}
use Rattle.regions.specs.Halo.{IsReachOf}
use Rattle.regions.proofs.Greatest.{greatest_more, greatest_all, greatest_empty}
use Rattle.regions.proofs.margin.vias_reach.Goals as goal

pub loop-via-init : goal.loop-via-init
loop-via-init c = greatest_empty (λ (via : Via) v. IsTrue via.usable × IsReachOf via v)

pub loop-via-preserved : goal.loop-via-preserved
loop-via-preserved c =
    greatest_more (λ (via : Via) v. IsTrue via.usable × IsReachOf via v) c.args.vias.now c.loop-via.via-index c.via-item.result c.loop-via.most c.via_reach.result c.max-most.result c.loop-via-test.true c.via-item.is c.loop-via.invariant c.via_reach.ensures c.max-most.ensures

pub returns : goal.returns
returns c = greatest_all (λ (via : Via) v. IsTrue via.usable × IsReachOf via v) c.args.vias.now c.loop-via.via-index c.loop-via.most c.loop-via-test.false c.loop-via.invariant
