use Rattle.std.proofs.lemmas.Int.{to_z-of_z}
use Rattle.std.proofs.Common.{w64}
use Rattle.rt_base.proofs.Ranges.{fits_from_within}
use Rattle.rt_base.proofs.orient.place.Goals as goal

pub returns : goal.returns
returns c = rw (c.hull.ensures, c.turned.ensures, c.turned-2.ensures, c.low.ensures, c.high.ensures.corner, to_z-of_z w64 _ (fits_from_within _ c.requires.w), to_z-of_z w64 _ (fits_from_within _ c.requires.h))
