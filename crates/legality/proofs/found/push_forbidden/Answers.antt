use Rattle.std.proofs.Common.{ℤ, ◌&&◌}
use Rattle.rt_base.specs.declared.tech.Shape.{Shape}
use Rattle.legality.specs.Forbidden.{is_near_at}
use Rattle.legality.proofs.FoundLemmas.{adds_more, adds_all}
use Rattle.legality.proofs.found.push_forbidden.Goals as goal

pub loop-shape-preserved : goal.loop-shape-preserved
loop-shape-preserved g c =
    adds_more (λ (s : Shape) (z : ℤ). g.T.ShapeTest.verdict c.args.test.now s && is_near_at c.args.mover.now s.rect z) c.args.shapes.now c.loop-shape.shape-index c.shape-item.result c.args.found.now.items c.loop-shape.found.items c.push_one.new.found.items
    c.loop-shape-test.true c.shape-item.is c.loop-shape.invariant c.in_ok-push_one.ensures

pub returns : goal.returns
returns g c =
    adds_all (λ (s : Shape) (z : ℤ). g.T.ShapeTest.verdict c.args.test.now s && is_near_at c.args.mover.now s.rect z) c.args.shapes.now c.loop-shape.shape-index c.args.found.now.items c.loop-shape.found.items c.loop-shape-test.false c.loop-shape.invariant
