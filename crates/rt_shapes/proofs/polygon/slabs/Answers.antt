use Rattle.std.proofs.Common.{All, sym, subst, List}
use Rattle.rt_base.specs.Sides.{Sides}
use Rattle.rt_base.specs.Ranges.{AreSidesWithin}
use Rattle.rt_shapes.proofs.SlabLemmas.{slabs_within}
use Rattle.rt_shapes.proofs.EvenOddLemmas.{slabs-even_odd}
use Rattle.rt_shapes.specs.EvenOdd.{AreSlabs}
use Rattle.rt_shapes.proofs.polygon.slabs.Goals as goal

pub returns-clause-within : goal.returns-clause-within
returns-clause-within c = λ most h. subst (λ (l : List Sides). All (AreSidesWithin most) l) (sym c.in_ok-rects.ensures) (slabs_within most c.args.points.now h)

pub returns-clause-inside : goal.returns-clause-inside
returns-clause-inside c = subst (λ (l : List Sides). AreSlabs c.args.points.now l) (sym c.in_ok-rects.ensures) (slabs-even_odd c.args.points.now)
