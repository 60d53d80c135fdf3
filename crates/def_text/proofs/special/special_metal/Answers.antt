use Rattle.std.proofs.Common.{◌-◌, ◌≤◌, ap, arith}
use Rattle.rt_forms.specs.Reading.{left_of, ends_option}
use Rattle.def_text.proofs.Ranges.{left_next, left_from_first}
use Rattle.def_text.proofs.SpecialRanges.{metal_sound}
use Rattle.def_text.proofs.special.special_metal.Goals as goal

pub returns-clause-sound : goal.returns-clause-sound
returns-clause-sound c =
    let taken = left_next c.args.words.now c.next.new.self _ c.in_ok-next.ensures.0 in
    let skipped = left_from_first ends_option c.next.new.self in
    let within : c.args.plus ≤ c.args.total = omega (arith, c.requires.plus) in
    let before : c.args.plus ≤ c.args.total - left_of c.option_rest.new.self = omega (arith, c.requires.plus, taken, skipped, ap left_of c.option_rest.ensures.words) in
    rw (c.in_ok-add_range.ensures.value, c.ended_by_metal.ensures, c.metal_first.ensures)
    (metal_sound c.args.total c.args.plus (c.args.total - left_of c.option_rest.new.self) c.args.net.now.close c.args.net.now c.requires.sound within before)
