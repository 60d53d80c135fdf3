use Rattle.std.proofs.Common.{◌≡◌, ◌∙◌, max, ap}
use Rattle.track_graph.specs.Metal.{Metal}
use Rattle.regions.specs.Halo.{farthest}
use Rattle.regions.proofs.Greatest.{greatest_one, greatest_more, greatest_all, greatest_empty}
use Rattle.regions.proofs.margin.rects_reach.Goals as goal

pub loop-metal-init : goal.loop-metal-init
loop-metal-init c = greatest_empty (λ (r : Metal) v. v ≡ farthest r.1)

pub loop-metal-preserved : goal.loop-metal-preserved
loop-metal-preserved c =
    greatest_more (λ (r : Metal) v. v ≡ farthest r.1) c.args.rects.now c.loop-metal.metal-index c.metal-item.result c.loop-metal.most (farthest c.metal-item.result.1) c.max-most.result c.loop-metal-test.true c.metal-item.is c.loop-metal.invariant (greatest_one (farthest c.metal-item.result.1))
    (c.max-most.ensures ∙ ap (max c.loop-metal.most) c.farthest.ensures)

pub returns : goal.returns
returns c = greatest_all (λ (r : Metal) v. v ≡ farthest r.1) c.args.rects.now c.loop-metal.metal-index c.loop-metal.most c.loop-metal-test.false c.loop-metal.invariant
