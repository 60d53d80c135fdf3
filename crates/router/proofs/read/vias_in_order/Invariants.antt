use Rattle.std.proofs.Common.{take, All}
use Rattle.rt_base.specs.declared.tech.Via.{Via}
use Rattle.track_graph.specs.Metal.{Metal}
use Rattle.wire_cover.specs.GoodStrokes.{IsOrdered}
use Rattle.router.proofs.read.vias_in_order.Given as goal

abbrev pub invariant-loop-via : goal.invariant-loop-via
invariant-loop-via l = All (λ (v : Via). All (λ (m : Metal). IsOrdered m.1) v.rects) (take l.via-index l.vias)
