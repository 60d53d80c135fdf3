use Rattle.std.proofs.Common.{◌≡◌, pos, get_or}
use Rattle.std.proofs.lemmas.List.{get_or_default}
use Rattle.rt_base.specs.declared.geometry.Span.{Span}
use Rattle.regions.proofs.TileLemmas.{below_next, numbers_of_more, numbers_of_all}
use Rattle.regions.proofs.tiles.numbers.Goals as goal

pub add_numbers-requires-clause-below : goal.add_numbers-requires-clause-below
add_numbers-requires-clause-below c =
    let runs = c.args.runs.now in
    let i = c.loop-run.run-index in
    let none : Span = record { lo = pos 0; hi = pos 0 } in
    let run : Span = get_or runs i none in
    let at : run ≡ get_or runs i run = get_or_default runs i none run c.loop-run-test.true in
    below_next runs c.loop-run.tiles.items i run c.requires.apart c.loop-run-test.true at (λ t k. (c.loop-run.invariant.exact t).0 k)

pub loop-run-preserved : goal.loop-run-preserved
loop-run-preserved c =
    let runs = c.args.runs.now in
    let i = c.loop-run.run-index in
    let none : Span = record { lo = pos 0; hi = pos 0 } in
    let run : Span = get_or runs i none in
    let at : run ≡ get_or runs i run = get_or_default runs i none run c.loop-run-test.true in
    numbers_of_more runs i run c.loop-run.tiles.items c.add_numbers.new.tiles.items c.loop-run-test.true at c.in_ok-add_numbers.ensures.ascending c.in_ok-add_numbers.ensures.exact c.loop-run.invariant

pub returns-clause-exact : goal.returns-clause-exact
returns-clause-exact c = (numbers_of_all c.args.runs.now c.loop-run.run-index c.loop-run.tiles.items c.loop-run-test.false c.loop-run.invariant).exact
