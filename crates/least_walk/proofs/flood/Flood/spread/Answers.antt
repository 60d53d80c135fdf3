use Rattle.std.proofs.Common.{take, get_or, pos, ◌∷◌, []}
use Rattle.std.proofs.lemmas.List.{take_more, take_all}
use Rattle.rt_base.specs.declared.walk.Edge.{Edge}
use Rattle.rt_base.specs.declared.walk.EdgeKind.TheVariants.{Along}
use Rattle.least_walk.specs.Flood.{Spreads}
use Rattle.least_walk.proofs.Flooding.{when_true, spreads_none, spreads_more}
use Rattle.least_walk.proofs.flood.Flood.spread.Goals as goal

pub loop-edge-init : goal.loop-edge-init
loop-edge-init g c = spreads_none _ _ _ _ _ c.requires.flood

pub follow-requires-clause-flood : goal.follow-requires-clause-flood
follow-requires-clause-flood g c = c.loop-edge.invariant.grown.flood

pub loop-edge-preserved : goal.loop-edge-preserved
loop-edge-preserved g c =
    let none : Edge = record { kind = Along; to = record { level = 0; point = record { x = pos 0; y = pos 0 } } } in
    let more = take_more c.args.edges.now c.loop-edge.edge-index none c.loop-edge-test.true in
    rw more (spreads_more _ _ _ _ (take c.loop-edge.edge-index c.args.edges.now) _ _ _ _ c.loop-edge.invariant (when_true {P = Spreads (g.G.Graph.vertices c.args.graph.now) (g.G.Graph.HasEdge c.args.graph.now) c.args.met.now c.args.from (get_or c.args.edges.now c.loop-edge.edge-index none ∷ []) c.loop-edge.self c.follow.new.self} _ c.if-not-branch.false c.in_ok-follow.ensures))

pub returns : goal.returns
returns g c = rw (take_all c.loop-edge.edge-index c.args.edges.now c.loop-edge-test.false) at c.loop-edge.invariant
