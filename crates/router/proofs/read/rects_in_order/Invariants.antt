use Rattle.std.proofs.Common.{take, All}
use Rattle.track_graph.specs.Metal.{Metal}
use Rattle.wire_cover.specs.GoodStrokes.{IsOrdered}
use Rattle.router.proofs.read.rects_in_order.Given as goal

abbrev pub invariant-loop-rect : goal.invariant-loop-rect
invariant-loop-rect l = All (λ (m : Metal). IsOrdered m.1) (take l.rect-index l.rects)
