use Rattle.legality.proofs.NearLemmas.{root_near}
use Rattle.legality.proofs.mover.reach.Goals as goal

pub returns-clause-some : goal.returns-clause-some
returns-clause-some c = root_near c.args.across c.args.spacing c.isqrt.result c.if-spacing-across.false c.isqrt.ensures.square_le c.isqrt.ensures.next_square_gt
