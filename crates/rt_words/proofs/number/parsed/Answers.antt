use Rattle.std.proofs.Common.{◌∙◌}
use Rattle.std.proofs.lemmas.Str.{IsUtf8-from_ascii}
use Rattle.std.proofs.lemmas.Fmt.{IsAscii-from_digits}
use Rattle.rt_words.proofs.Digits.{all_digits}
use Rattle.rt_words.proofs.Naturals.{parsed_is}
use Rattle.rt_words.proofs.number.parsed.Goals as goal

pub returns-in-Ok : goal.returns-in-Ok
returns-in-Ok c =
    let text = c.in-Ok.ensures.cases.0 in
    c.ok.ensures.value ∙ parsed_is c.args.digits.now _ (rw text at c.parse.ensures.value.0) c.requires.digits c.requires.some

pub returns-in-Err : goal.returns-in-Err
returns-in-Err c =
    let ds = c.args.digits.now in
    absurd (c.in-Err.ensures.cases.0 (IsUtf8-from_ascii ds (IsAscii-from_digits ds (all_digits ds c.requires.digits))))
