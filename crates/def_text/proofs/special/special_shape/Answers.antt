use Rattle.std.proofs.Common.{◌-◌, ◌≤◌, arith}
use Rattle.rt_forms.specs.Reading.{left_of}
use Rattle.def_text.proofs.Ranges.{left_next}
use Rattle.def_text.proofs.SpecialRanges.{shape_sound}
use Rattle.def_text.proofs.special.special_shape.Goals as goal

pub returns-clause-sound : goal.returns-clause-sound
returns-clause-sound c =
    let taken = left_next c.args.words.now c.next.new.self _ c.in_ok-next.ensures.0 in
    let now = c.args.total - left_of c.shape_word.new.words in
    let before : c.args.plus ≤ now = omega (arith, c.requires.plus, taken, c.in_ok-alone.ensures.left) in
    rw c.shaped-net.ensures
    (shape_sound c.args.total c.args.plus now c.args.net.now.close c.in_ok-alone.alone c.args.net.now c.requires.sound before)
