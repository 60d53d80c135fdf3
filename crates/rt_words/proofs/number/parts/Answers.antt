use Rattle.std.proofs.Common.{◌≡◌, arith, ap, sym, ◌∙◌, Ok, Err, ℤ, to_z, of_z, w64, Result}
use Rattle.std.proofs.lemmas.Result.{err_from_is_err_and}
use Rattle.std.proofs.lemmas.Int.{ints}
use Rattle.rt_words.specs.declared.number.NumberFault.{NumberFault}
use Rattle.rt_words.proofs.Digits.{parts_are}
use Rattle.rt_words.proofs.number.parts.Goals as goal

pub returns-in_err-n-clause-value : goal.returns-in_err-n-clause-value
returns-in_err-n-clause-value c =
    let p = err_from_is_err_and c.from_residual.result c.from_residual.ensures.1 in
    let v = rw (c.capped.ensures, c.capped-2.ensures, c.power_of_ten-unit.ensures.value) at c.in_err-n.ensures.value in
    rw (p.1, p.2) (parts_are c.args.negative c.args.whole.now c.args.fraction.now c.args.scale (Err c.in_err-n.field-0.0) (sym c.if-not-are_digits.ensures) c.if-fraction-gt-MOST_DECIMALS.false v)

abbrev ok_number : ℤ → Result ℤ NumberFault
ok_number z = Ok z

pub returns-clause-value : goal.returns-clause-value
returns-clause-value c =
    let v = rw (c.capped.ensures, c.capped-2.ensures, c.power_of_ten-unit.ensures.value) at c.in_ok-n.ensures.value in
    let z : to_z w64 (of_z w64 c.signed.result) ≡ c.signed.result = omega (arith, ints) in
    ap ok_number (z ∙ c.signed.ensures.value) ∙ parts_are c.args.negative c.args.whole.now c.args.fraction.now c.args.scale (Ok c.in_ok-n.n) (sym c.if-not-are_digits.ensures) c.if-fraction-gt-MOST_DECIMALS.false v
