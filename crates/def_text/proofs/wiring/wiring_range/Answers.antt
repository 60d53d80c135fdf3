use Rattle.std.proofs.Common.{◌≤◌, arith}
use Rattle.def_text.proofs.Ranges.{left_next, range_of_choice}
use Rattle.def_text.proofs.wiring.wiring_range.Goals as goal

pub returns-clause-range : goal.returns-clause-range
returns-clause-range c =
    let taken = left_next c.args.words.now c.next.new.self _ c.in_ok-next.ensures.0 in
    let skipped = c.option_tail-alone.ensures.left in
    let before : c.args.plus ≤ c.here-past.result = omega (arith, c.requires, c.here-past.ensures, taken, skipped) in
    let after : c.here-behind.result ≤ c.here-past.result = omega (arith, c.here-behind.ensures, c.here-past.ensures, skipped) in
    let within : c.here-past.result ≤ c.args.total = omega (arith, c.here-past.ensures) in
    rw c.range_or_word.ensures (range_of_choice c.args.total c.args.plus c.here-behind.result c.here-past.result c.option_tail-alone.result before after within)
