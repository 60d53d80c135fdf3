use Rattle.legality.proofs.RowLemmas.{hull_taken}
use Rattle.legality.proofs.band.Band.take.Goals as goal

pub invariant_of-self : goal.invariant_of-self
invariant_of-self c = hull_taken c.remove.result c.self.inside.hull c.args.shape.now c.self.inside.store.kept c.remove.new.self.kept c.self.invariant c.remove.ensures.found c.remove.ensures.same
