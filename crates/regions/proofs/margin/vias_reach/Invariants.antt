use Rattle.std.proofs.Common.{take, Any, IsTrue}
use Rattle.rt_base.specs.declared.tech.Via.{Via}
use Rattle.regions.specs.Halo.{IsGreatest, IsReachOf}
use Rattle.regions.proofs.margin.vias_reach.Given as goal

abbrev pub invariant-loop-via : goal.invariant-loop-via
invariant-loop-via l = IsGreatest (λ v. Any (λ (via : Via). IsTrue via.usable × IsReachOf via v) (take l.via-index l.vias)) l.most
