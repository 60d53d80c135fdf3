use Rattle.std.proofs.Common.{IsPermutation, List, ◌∷◌, subst}
use Rattle.rt_base.specs.declared.tech.Shape.{Shape}
use Rattle.legality.proofs.RowLemmas.{hull_one}
use Rattle.legality.proofs.band.Band.of.Goals as goal

pub invariant_of-result : goal.invariant_of-result
invariant_of-result c =
    hull_one c.args.shape.now c.add.new.self.kept c.requires (subst (λ (l : List Shape). IsPermutation (c.args.shape.now ∷ l) c.add.new.self.kept) c.new-store.ensures c.in_ok-add.ensures.ok)
