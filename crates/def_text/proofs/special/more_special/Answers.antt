use Rattle.std.proofs.Common.{◌-◌, ◌≤◌, arith}
use Rattle.rt_forms.specs.Reading.{left_of}
use Rattle.def_text.proofs.Ranges.{left_next}
use Rattle.def_text.proofs.SpecialRanges.{closed_sound}
use Rattle.def_text.proofs.special.more_special.Goals as goal

pub special_option-requires-clause-plus : goal.special_option-requires-clause-plus
special_option-requires-clause-plus c = omega (arith, c.here-at.ensures, left_next c.args.words.now c.next.new.self _ c.in_ok-word.ensures.0)

pub special_option-requires-clause-sound : goal.special_option-requires-clause-sound
special_option-requires-clause-sound c = rw c.here-at.ensures c.requires

pub returns-then-is-clause-sound : goal.returns-then-is-clause-sound
returns-then-is-clause-sound c =
    let within : c.args.total - left_of c.args.words.now ≤ c.args.total = omega arith in
    rw (c.in_ok-add_range.ensures.value, c.ended.ensures, c.here-at.ensures)
    (closed_sound c.args.total (c.args.total - left_of c.args.words.now) (c.args.total - left_of c.next.new.self) c.in_ok-word.word.first c.args.net.now c.requires within)
