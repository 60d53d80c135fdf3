use Rattle.std.proofs.Common.{refl}
use Rattle.rt_base.proofs.Ranges.{diff_is}
use Rattle.rt_base.proofs.orient.turned.Goals as goal

pub returns-in-S : goal.returns-in-S
returns-in-S c = rw (diff_is _ _ _ refl c.requires.w c.requires.p.0, diff_is _ _ _ refl c.requires.h c.requires.p.1, c.in-S.is)

pub returns-in-FE : goal.returns-in-FE
returns-in-FE c = rw (diff_is _ _ _ refl c.requires.h c.requires.p.1, diff_is _ _ _ refl c.requires.w c.requires.p.0, c.in-FE.is)
