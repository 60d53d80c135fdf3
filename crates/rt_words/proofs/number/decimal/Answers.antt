use Rattle.std.proofs.Common.{◌≡◌, ◌∙◌, sym}
use Rattle.rt_words.specs.Reading.{decimal_of}
use Rattle.rt_words.proofs.Numerals.{decimal_is, decimal_number, decimal_no_number}
use Rattle.rt_words.proofs.number.decimal.Goals as goal

value : (c : goal.After-parts) → c.parts.result ≡ decimal_of c.args.word.now c.args.scale
unfolding decimal_of
value c = rw (sym c.begins_with_minus.ensures, sym c.without_sign.ensures, sym c.around_point.ensures.whole, sym c.around_point.ensures.fraction) c.parts.ensures.value

pub returns-clause-numeral : goal.returns-clause-numeral
returns-clause-numeral c n w = value c ∙ decimal_is c.args.word.now n c.args.scale w

pub returns-clause-not_number : goal.returns-clause-not_number
returns-clause-not_number c =
    (λ e n. decimal_number c.args.word.now n c.args.scale (sym (value c) ∙ e), λ none. value c ∙ decimal_no_number c.args.word.now c.args.scale none)

pub returns-clause-value : goal.returns-clause-value
returns-clause-value c = value c
