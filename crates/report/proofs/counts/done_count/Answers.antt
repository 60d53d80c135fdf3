use Rattle.std.proofs.Common.{◌∙◌, ◌+◌, ap, sym, count_by}
use Rattle.report.specs.Lines.{is_done}
use Rattle.report.proofs.Lists.{count-zip_yes, count-zip_no, take_all-zip}
use Rattle.report.proofs.counts.done_count.Goals.{then-is_done, else-is_done}
use Rattle.report.proofs.counts.done_count.Goals as goal

pub loop-i-preserved : goal.loop-i-preserved
loop-i-preserved c =
    let n = c.index-nets-i.result in
    let s = c.index-states-i.result in
    elim c.if-is_done.branch [
      | then-is_done w ↦
          w.count-is ∙ ap (λ k. k + 1) c.loop-i.invariant
          ∙ sym (count-zip_yes is_done c.args.nets.now c.args.states.now c.loop-i.i n s c.requires c.loop-i-test.true c.index-nets-i.is c.index-states-i.is (sym c.is_done.ensures ∙ w.if-is_done.true))
      | else-is_done w ↦
          w.count-is ∙ c.loop-i.invariant
          ∙ sym (count-zip_no is_done c.args.nets.now c.args.states.now c.loop-i.i n s c.requires c.loop-i-test.true c.index-nets-i.is c.index-states-i.is (sym c.is_done.ensures ∙ w.if-is_done.false))
    ]

pub returns : goal.returns
returns c = c.loop-i.invariant ∙ ap (count_by is_done) (take_all-zip c.args.nets.now c.args.states.now c.loop-i.i c.loop-i-test.false)
