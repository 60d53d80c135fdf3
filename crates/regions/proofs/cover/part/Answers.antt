use Rattle.std.proofs.Common.{arith}
use Rattle.std.proofs.lemmas.Int.{ints}
use Rattle.regions.proofs.cover.part.Goals.{then-line-across-via-then-line-across, then-line-across-via-else-line-across+then-across-line}
use Rattle.regions.proofs.cover.part.Goals as goal

pub returns-then-line-across-clause-none : goal.returns-then-line-across-clause-none
returns-then-line-across-clause-none c z h =
    let across = ((c.extents.ensures.exact z).0 h.1).1 in
    elim c.then-line-across.branch [
      | then-line-across-via-then-line-across w ↦ omega (arith, ints, across.0, w.if-line-across.true)
      | then-line-across-via-else-line-across+then-across-line w ↦ omega (arith, ints, across.1, w.if-across-line.true)
    ]

pub returns-clause-some : goal.returns-clause-some
returns-clause-some c = record {
  full = c.extents.ensures.full;
  exact = λ z. (
    λ s. (c.if-guide_box-level.false, (c.extents.ensures.exact z).1 (s, (grind (arith, ints, c.if-line-across.false), grind (arith, ints, c.if-across-line.false)))),
    λ h. ((c.extents.ensures.exact z).0 h.1).0,
  );
}
