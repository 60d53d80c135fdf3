use Rattle.std.proofs.Common.{sym, subst}
use Rattle.rt_base.specs.Sides.{Sides}
use Rattle.legality.specs.Rows.{IsHull}
use Rattle.legality.proofs.RowLemmas.{hull_more}
use Rattle.legality.proofs.band.Band.put.Goals as goal

pub invariant_of-self-2 : goal.invariant_of-self-2
invariant_of-self-2 c =
    subst (λ (h : Sides). IsHull h c.add.new.self.kept) (sym c.join-hull.ensures)
    (hull_more c.self.inside.hull c.args.shape.now c.self.inside.store.kept c.add.new.self.kept c.requires c.self.invariant c.in_ok-add.ensures.ok)
