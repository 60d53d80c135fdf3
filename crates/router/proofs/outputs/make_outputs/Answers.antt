use Rattle.std.proofs.Common.{refl, ap, ◌∙◌, []}
use Rattle.track_graph.specs.declared.history.State.{State}
use Rattle.def_out.specs.Wiring.{routed_def}
use Rattle.report.specs.Lines.{report_of}
use Rattle.ripup.specs.Headline.{GoesOnInOrder}
use Rattle.ripup.proofs.OrderLemmas.{goes_on-from_none}
use Rattle.router.specs.Runs.{routed_status}
use Rattle.router.proofs.outputs.make_outputs.Goals as goal

pub finish-requires-clause-history : goal.finish-requires-clause-history
finish-requires-clause-history c = rw c.new.ensures tt

pub same-journal : goal.same-journal
same-journal c = refl

pub returns : goal.returns
returns c =
    let d = c.args.design.now in
    let blocks = c.in_ok-journal.journal.blocks in
    let goes_on : GoesOnInOrder d blocks [] = rw c.new.ensures at c.in_ok-journal.ensures.order in
    let state_is = rw c.blocks-2.ensures at c.in_ok-state.ensures.after in
    record {
      routing = record { finished = c.in_ok-journal.ensures.finished; headline = c.in_ok-journal.ensures.headline; order = goes_on-from_none d blocks [] refl goes_on };
      routed = c.from_vec.ensures ∙ c.in_ok-routed.ensures ∙ ap (routed_def c.args.text.now d) state_is;
      lines = c.from_vec-2.ensures ∙ c.in_ok-lines.ensures;
      report = c.from_vec-3.ensures ∙ (rw c.blocks-3.ensures at c.in_ok-report.ensures) ∙ ap (λ (s : State). report_of d s blocks) state_is;
      status = c.routed_status.ensures ∙ ap (routed_status d) state_is;
    }
