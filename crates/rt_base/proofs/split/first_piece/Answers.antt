use Rattle.std.proofs.Common.{ℕ, take, None, ap, ◌≡◌, ◌<◌, ◌==◌, false, length, sym, ◌∙◌, refl, arith}
use Rattle.std.proofs.lemmas.Bool.Decides.{nat_tests}
use Rattle.std.specs.List.{count_by, position_or_len}
use Rattle.rt_base.specs.Parts.{is_feed, is_quote}
use Rattle.rt_base.proofs.Parting.{none_all, position_is}
use Rattle.rt_base.proofs.Scanning.{blank_part, comment_part, quoted_part, plain_part}
use Rattle.rt_base.proofs.split.first_piece.Goals as goal

pub returns-then-first-eq10-clause-part : goal.returns-then-first-eq10-clause-part
returns-then-first-eq10-clause-part c = blank_part _ _ _ (sym c.blank.ensures ∙ c.if-blank.true) (rw c.if-first-eq10.true refl)

pub returns-else-first-eq10-clause-part : goal.returns-else-first-eq10-clause-part
returns-else-first-eq10-clause-part c =
    let no : (c.args.first == 10) ≡ false = grind (arith, nat_tests) in
    blank_part _ _ _ (sym c.blank.ensures ∙ c.if-blank.true) (rw no refl)

pub returns-then-first-eq35-clause-part : goal.returns-then-first-eq35-clause-part
returns-then-first-eq35-clause-part c = rw (c.before_feed-n.ensures.before, c.if-first-eq35.true) (comment_part _)

pub returns-in_default-clause-part : goal.returns-in_default-clause-part
returns-in_default-clause-part c = record {
  quote = c.if-first-eq34.true;
  unclosed = none_all is_quote c.args.after.now (sym (position_is is_quote c.args.after.now None c.in_default.ensures.place));
}

pub returns-then-first-eq34-clause-part : goal.returns-then-first-eq34-clause-part
returns-then-first-eq34-clause-part c =
    let n : c.in-Some.n ≡ position_or_len is_quote c.args.after.now = position_is is_quote c.args.after.now _ (c.in-Some.ensures.place) in
    let within : c.in-Some.n < length c.args.after.now = c.in-Some.ensures.within in
    rw (n, c.if-first-eq34.true) (quoted_part _ _ (omega (arith, n)) (c.feeds.ensures ∙ ap (λ (k : ℕ). count_by is_feed (take k c.args.after.now)) n))

pub returns-clause-part : goal.returns-clause-part
returns-clause-part c =
    let comment : (c.args.first == 35) ≡ false = grind (arith, nat_tests) in
    let quote : (c.args.first == 34) ≡ false = grind (arith, nat_tests) in
    rw c.before_blank-n.ensures.before (plain_part _ _ (sym c.blank.ensures ∙ c.if-blank.false) comment quote)
