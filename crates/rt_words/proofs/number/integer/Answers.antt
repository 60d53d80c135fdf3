use Rattle.std.proofs.Common.{◌≡◌, ◌∙◌, sym}
use Rattle.rt_words.specs.Reading.{integer_of}
use Rattle.rt_words.proofs.Numerals.{integer_is, integer_number, integer_no_number}
use Rattle.rt_words.proofs.number.integer.Goals as goal

value : (c : goal.After-parts) → c.parts.result ≡ integer_of c.args.word.now
unfolding integer_of
value c = rw (sym c.begins_with_minus.ensures, sym c.without_sign.ensures) c.parts.ensures.value

pub returns-clause-numeral : goal.returns-clause-numeral
returns-clause-numeral c n w = value c ∙ integer_is c.args.word.now n w

pub returns-clause-not_number : goal.returns-clause-not_number
returns-clause-not_number c =
    (λ e n. integer_number c.args.word.now n (sym (value c) ∙ e), λ none. value c ∙ integer_no_number c.args.word.now none)

pub returns-clause-value : goal.returns-clause-value
returns-clause-value c = value c
