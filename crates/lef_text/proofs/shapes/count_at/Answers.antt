use Rattle.std.proofs.Common.{◌+◌, sym, refl, arith, rules}
use Rattle.lef_text.proofs.Counts.{counted_past, counted_answer, count_fits}
use Rattle.lef_text.proofs.shapes.count_at.Goals as goal

pub returns-then-place-len : goal.returns-then-place-len
returns-then-place-len c = sym (counted_past c.args.place c.args.skipped.now (omega (arith, c.len.ensures, c.if-place-len.true)))

pub returns : goal.returns
returns c = counted_answer c.args.place c.skipped.inside.items.items c.args.skipped.now c.index_mut-entry.result.now (c.index_mut-entry.result.now.1 + 1) (search rules) (omega (arith, c.len.ensures, c.if-place-len.false)) c.index_mut-entry.ensures.value refl

pub overflow_add-entry : goal.overflow_add-entry
overflow_add-entry c = omega (arith, count_fits c.args.place c.skipped.inside.items.items c.args.skipped.now c.index_mut-entry.result.now (search rules) (omega (arith, c.len.ensures, c.if-place-len.false)) c.index_mut-entry.ensures.value c.requires)
