use Rattle.std.proofs.Common.{refl, rules}
use Rattle.rt_base.proofs.Ranges.{sum_is, diff_is}
use Rattle.def_wires.proofs.Drawing.{length_within}
use Rattle.def_wires.proofs.rectangles.along.Goals as goal

pub returns-then-ends-clause-value : goal.returns-then-ends-clause-value
returns-then-ends-clause-value c =
    let e = c.args.ends in
    let lo = diff_is e.from e.from e.near refl c.requires.from (length_within e.near c.requires.near) in
    let hi = sum_is e.to e.to e.far refl c.requires.to (length_within e.far c.requires.far) in
    rw (lo, hi) (search rules)

pub returns-clause-value : goal.returns-clause-value
returns-clause-value c =
    let e = c.args.ends in
    let lo = diff_is e.to e.to e.far refl c.requires.to (length_within e.far c.requires.far) in
    let hi = sum_is e.from e.from e.near refl c.requires.from (length_within e.near c.requires.near) in
    rw (lo, hi) (search rules)
