use Rattle.std.proofs.Common.{sym, ◌∙◌, arith, codes}
use Rattle.def_text.specs.Special.{special_item}
use Rattle.def_text.proofs.Items.{items_end_err, items_end}
use Rattle.def_text.proofs.special.more_specials.Goals as goal

pub returns-in_err-section_end-clause-reads : goal.returns-in_err-section_end-clause-reads
returns-in_err-section_end-clause-reads c = items_end_err (codes "SPECIALNETS") c.args.said (special_item c.args.total) c.args.listed.now c.args.words.now c.next.new.self _ _ _ _ _ c.in_ok-word.ensures.0 (sym c.is.ensures ∙ c.if-is.false) (sym c.is-2.ensures ∙ c.if-is-2.true)
    (rw c.len.ensures at c.in_err-section_end.ensures.reads) c.from_residual-in_err-section_end.ensures.1

pub returns-then-is-2-clause-reads : goal.returns-then-is-2-clause-reads
returns-then-is-2-clause-reads c =
    let e = rw c.len.ensures at c.in_ok-section_end.ensures.reads in
    let first = c.in_ok-word.ensures.1 in
    let second = e.1 in
    (items_end (codes "SPECIALNETS") c.args.said (special_item c.args.total) c.args.listed.now c.args.words.now c.next.new.self _ _ c.in_ok-word.ensures.0 (sym c.is.ensures ∙ c.if-is.false) (sym c.is-2.ensures ∙ c.if-is-2.true) e.0, omega arith)
