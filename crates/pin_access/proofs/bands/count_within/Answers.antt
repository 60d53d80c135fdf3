use Rattle.std.proofs.Common.{◌≡◌, pos, get_or, to_z, of_z, w64, rules, arith}
use Rattle.std.proofs.lemmas.Int.{to_z-of_z}
use Rattle.std.proofs.lemmas.List.{get_or_default}
use Rattle.rt_base.specs.declared.geometry.Span.{Span}
use Rattle.pin_access.proofs.Sweeping.{Takes, Leaves, counted_most, swept_none, swept_more, swept_most, swept_all}
use Rattle.pin_access.proofs.bands.count_within.Goals as goal

abbrev no_span : Span
no_span = record { lo = pos 0; hi = pos 0 }

pub loop-span-init : goal.loop-span-init
loop-span-init c = swept_none c.args.numbers.now c.args.spans.now c.requires.ascending

pub lines_in-requires : goal.lines_in-requires
lines_in-requires c = c.loop-span.invariant.ascending

pub overflow_add-count : goal.overflow_add-count
overflow_add-count c =
    let spans = c.args.spans.now in
    let k = c.loop-span.span-index in
    let span = get_or spans k no_span in
    let takes : Takes (get_or c.args.spans.now c.loop-span.span-index no_span) c.loop-span.rest.now c.lines_in.result.now = record { inside_up = c.lines_in.ensures.ascending; inside_is = c.lines_in.ensures.those } in
    let most = counted_most c.args.numbers.now spans k span c.loop-span.rest.now c.lines_in.result.now c.loop-span.count c.loop-span-test.true (get_or_default spans k no_span span c.loop-span-test.true) c.loop-span.invariant takes in
    omega (arith, most)

pub loop-span-preserved : goal.loop-span-preserved
loop-span-preserved c =
    let spans = c.args.spans.now in
    let k = c.loop-span.span-index in
    let span = get_or spans k no_span in
    let takes : Takes (get_or c.args.spans.now c.loop-span.span-index no_span) c.loop-span.rest.now c.lines_in.result.now = record { inside_up = c.lines_in.ensures.ascending; inside_is = c.lines_in.ensures.those } in
    let hi : to_z w64 (of_z w64 (get_or c.args.spans.now c.loop-span.span-index no_span).hi) ≡ (get_or c.args.spans.now c.loop-span.span-index no_span).hi = to_z-of_z w64 _ (search rules) in
    let leaves : Leaves (get_or c.args.spans.now c.loop-span.span-index no_span) c.loop-span.rest.now c.numbers_past-rest.result.now = record { after_up = c.numbers_past-rest.ensures.ascending; after_is = rw hi at c.numbers_past-rest.ensures.those } in
    swept_more c.args.numbers.now spans k span c.loop-span.rest.now c.lines_in.result.now c.numbers_past-rest.result.now c.loop-span.count c.requires.ordered c.loop-span-test.true (get_or_default spans k no_span span c.loop-span-test.true) c.loop-span.invariant takes leaves

pub returns-clause-count : goal.returns-clause-count
returns-clause-count c = swept_all c.args.numbers.now c.args.spans.now c.loop-span.span-index c.loop-span.rest.now c.loop-span.count c.loop-span-test.false c.loop-span.invariant

pub returns-clause-most : goal.returns-clause-most
returns-clause-most c = swept_most c.args.numbers.now c.args.spans.now c.loop-span.span-index c.loop-span.rest.now c.loop-span.count c.loop-span.invariant
