use Rattle.std.proofs.Common.{◌∙◌, ◌+◌, ap, sym, count_by}
use Rattle.report.specs.Lines.{is_open}
use Rattle.report.proofs.Lists.{count-zip_yes, count-zip_no, take_all-zip}
use Rattle.report.proofs.counts.open_count.Goals.{then-is_open, else-is_open}
use Rattle.report.proofs.counts.open_count.Goals as goal

pub loop-i-preserved : goal.loop-i-preserved
loop-i-preserved c =
    let n = c.index-nets-i.result in
    let s = c.index-states-i.result in
    elim c.if-is_open.branch [
      | then-is_open w ↦
          w.count-is ∙ ap (λ k. k + 1) c.loop-i.invariant
          ∙ sym (count-zip_yes is_open c.args.nets.now c.args.states.now c.loop-i.i n s c.requires c.loop-i-test.true c.index-nets-i.is c.index-states-i.is (sym c.is_open.ensures ∙ w.if-is_open.true))
      | else-is_open w ↦
          w.count-is ∙ c.loop-i.invariant
          ∙ sym (count-zip_no is_open c.args.nets.now c.args.states.now c.loop-i.i n s c.requires c.loop-i-test.true c.index-nets-i.is c.index-states-i.is (sym c.is_open.ensures ∙ w.if-is_open.false))
    ]

pub returns : goal.returns
returns c = c.loop-i.invariant ∙ ap (count_by is_open) (take_all-zip c.args.nets.now c.args.states.now c.loop-i.i c.loop-i-test.false)
