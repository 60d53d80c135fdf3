use Rattle.std.proofs.Common.{◌≡◌, ◌<◌, ◌≤◌, length, sym, ◌∙◌, arith}
use Rattle.rt_base.specs.Parts.{is_bad}
use Rattle.rt_base.proofs.Parting.{none_all}
use Rattle.rt_base.proofs.Scanning.{reads_same, made_inside, not_text_made, not_text_opens, unclosed}
use Rattle.rt_base.proofs.scan.tokens.Goals as goal

pub returns-then-clean-text-clause-found : goal.returns-then-clean-text-clause-found
returns-then-clean-text-clause-found c = record {
  made = c.in-Ok.ensures;
  text_only = none_all is_bad _ (sym c.before_bad-clean.ensures.before ∙ c.if-clean-text.true);
}

pub returns-then-clean-text-clause-only : goal.returns-then-clean-text-clause-only
returns-then-clean-text-clause-only c = λ o reads. reads_same c.args.text.now _ o (returns-then-clean-text-clause-found c) reads

pub returns-then-clean-text-clause-inside : goal.returns-then-clean-text-clause-inside
returns-then-clean-text-clause-inside c = made_inside _ _ c.in-Ok.ensures

pub returns-else-clean-text-clause-found : goal.returns-else-clean-text-clause-found
returns-else-clean-text-clause-found c =
    let within : c.before_bad-clean.result < length c.args.text.now = omega (arith, c.before_bad-clean.ensures.within, c.if-clean-text.false) in
    rw c.line_at.ensures (not_text_made _ _ _ c.in-Ok.ensures c.before_bad-clean.ensures.before within)

pub returns-else-clean-text-clause-only : goal.returns-else-clean-text-clause-only
returns-else-clean-text-clause-only c = λ o reads. reads_same c.args.text.now _ o (returns-else-clean-text-clause-found c) reads

pub returns-then-at-clean-clause-found : goal.returns-then-at-clean-clause-found
returns-then-at-clean-clause-found c =
    let fault = rw c.in-Err-Unclosed.field-0-is at c.in-Err-Unclosed.ensures in
    unclosed _ fault.0 _ fault.1 fault.3 (omega (arith, fault.2, c.if-at-clean.true, c.before_bad-clean.ensures.before))

pub returns-then-at-clean-clause-only : goal.returns-then-at-clean-clause-only
returns-then-at-clean-clause-only c = λ o reads. reads_same c.args.text.now _ o (returns-then-at-clean-clause-found c) reads

pub returns-else-at-clean-clause-found : goal.returns-else-at-clean-clause-found
returns-else-at-clean-clause-found c =
    let fault = rw c.in-Err-Unclosed.field-0-is at c.in-Err-Unclosed.ensures in
    rw c.line_at-else-at-clean.ensures (not_text_opens _ _ _ fault.1 c.before_bad-clean.ensures.before (omega (arith, fault.2, c.if-at-clean.false)))

pub returns-else-at-clean-clause-only : goal.returns-else-at-clean-clause-only
returns-else-at-clean-clause-only c = λ o reads. reads_same c.args.text.now _ o (returns-else-at-clean-clause-found c) reads
