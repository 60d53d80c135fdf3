use Rattle.std.proofs.Common.{◌-◌, ◌≤◌, arith}
use Rattle.rt_forms.specs.Reading.{left_of}
use Rattle.def_text.proofs.Ranges.{left_next}
use Rattle.def_text.proofs.SpecialRanges.{wired_sound}
use Rattle.def_text.proofs.special.special_wired.Goals as goal

pub returns-clause-sound : goal.returns-clause-sound
returns-clause-sound c =
    let taken = left_next c.args.words.now c.next.new.self _ c.in_ok-next.ensures.0 in
    let skipped = c.option_tail-alone.ensures.left in
    let now = c.args.total - left_of c.option_tail-alone.new.words in
    let within : c.args.plus ≤ c.args.total = omega (arith, c.requires.plus) in
    let before : c.args.plus ≤ now = omega (arith, c.requires.plus, taken, skipped) in
    let after : c.here-behind.result ≤ now = omega (arith, c.here-behind.ensures, skipped) in
    rw (c.in_ok-add_range.ensures.value, c.ended.ensures, c.routed-net.ensures)
    (wired_sound c.args.total c.args.plus c.here-behind.result now c.args.net.now.close c.option_tail-alone.result c.args.net.now c.requires.sound within before after)
