use Rattle.std.proofs.Common.{take, pos}
use Rattle.std.proofs.lemmas.List.{take_more, take_all}
use Rattle.rt_base.specs.declared.walk.Edge.{Edge}
use Rattle.rt_base.specs.declared.walk.EdgeKind.TheVariants.{Along}
use Rattle.least_walk.proofs.Following.{mid_none, extends_self, extends_through}
use Rattle.least_walk.proofs.label.Search.relax.Goals as goal

pub loop-edge-init : goal.loop-edge-init
loop-edge-init g c = record { mid = c.requires.mid; keeps = extends_self _ _ }

pub follow-requires-clause-mid : goal.follow-requires-clause-mid
follow-requires-clause-mid g c = mid_none _ _ _ _ _ _ _ _ _ _ c.loop-edge.invariant.mid

pub loop-edge-preserved : goal.loop-edge-preserved
loop-edge-preserved g c =
    let none : Edge = record { kind = Along; to = record { level = 0; point = record { x = pos 0; y = pos 0 } } } in
    let more = take_more c.args.edges.now c.loop-edge.edge-index none c.loop-edge-test.true in
    record {
      mid = rw more (c.in_ok-follow.ensures.mid (take c.loop-edge.edge-index c.args.edges.now) c.loop-edge.invariant.mid);
      keeps = extends_through _ _ _ _ _ _ c.loop-edge.invariant.keeps c.in_ok-follow.ensures.extends;
    }

pub returns-clause-mid : goal.returns-clause-mid
returns-clause-mid g c = rw (take_all c.loop-edge.edge-index c.args.edges.now c.loop-edge-test.false) at c.loop-edge.invariant.mid
