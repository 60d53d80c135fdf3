use Rattle.std.proofs.Common.{◌^◌, subst, sym}
use Rattle.rt_base.specs.Ranges.{AreSidesWithin}
use Rattle.rt_base.proofs.Ranges.{hull_within}
use Rattle.def_text.proofs.tracks.die.Goals as goal

pub returns-clause-small : goal.returns-clause-small
returns-clause-small c = subst (λ s. AreSidesWithin (2 ^ 30) s) (sym c.hull.ensures) (hull_within (2 ^ 30) c.in_ok-p.p c.in_ok-q.q c.in_ok-p.ensures.small c.in_ok-q.ensures.small)
