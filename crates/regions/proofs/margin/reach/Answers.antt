use Rattle.std.proofs.Common.{List, Any, IsTrue, subst}
use Rattle.rt_base.specs.declared.tech.Via.{Via}
use Rattle.regions.specs.Halo.{IsGreatest, IsReachOf}
use Rattle.regions.proofs.Bounds.{shape_reach}
use Rattle.regions.proofs.margin.reach.Goals as goal

pub returns : goal.returns
returns c =
    shape_reach c.args.design.now c.vias_reach.result c.stub_reach.result c.max.result c.max.ensures
    (subst (λ (vias : List Via). IsGreatest (λ v. Any (λ (via : Via). IsTrue via.usable × IsReachOf via v) vias) c.vias_reach.result) c.as_slice.ensures c.vias_reach.ensures) c.stub_reach.ensures
