use Rattle.std.proofs.Common.{◌∙◌, ℕ, List, inl, inr, refl, sym, ap, subst, take, get_or, All}
use Rattle.std.proofs.lemmas.List.{take_more, take_all}
use Rattle.std.proofs.lemmas.List.Elements.{All-nil, All-push}
use Rattle.track_graph.specs.Conditions.{IsJournalOf}
use Rattle.track_graph.specs.Histories.{IsFinished}
use Rattle.track_graph.specs.Orders.{IsOrder}
use Rattle.track_graph.specs.States.{state_of}
use Rattle.ripup.specs.Progress.{IsDone}
use Rattle.ripup.proofs.HeadlineLemmas.{IsFinishedHistory-headline}
use Rattle.track_graph.proofs.BlockLemmas.{history-journal_of, history-kept}
use Rattle.ripup.proofs.OrderLemmas.{all_weaker, goes_on-first, goes_on-more}
use Rattle.ripup.proofs.ProgressLemmas.{IsFinished-order}
use Rattle.ripup.proofs.one_thread.finish.Goals as goal

pub fold-requires : goal.fold-requires
fold-requires c =
    subst (IsJournalOf c.args.design.now) (sym c.blocks-2.ensures)
    (history-journal_of c.args.design.now c.args.journal.blocks c.requires.design c.requires.history)

pub loop-net-init : goal.loop-net-init
loop-net-init c = record {
  under_way = record { history = c.requires.history; state = c.in_ok-state.ensures.after ∙ ap (state_of c.args.design.now) c.blocks-2.ensures; stored = c.in_ok-store.ensures };
  goes_on = goes_on-first c.args.design.now c.args.journal.blocks;
  done = All-nil _;
}

pub loop-net-preserved : goal.loop-net-preserved
loop-net-preserved c =
    let nets : List ℕ = c.as_slice-net-items.result.now in
    let n : ℕ = get_or nets c.loop-net.net-index 0 in
    let ordered : IsOrder c.args.design.now nets = subst (IsOrder c.args.design.now) (sym c.as_slice-net-items.ensures.value) c.in_ok-order.ensures in
    record {
      under_way = c.in_ok-settle.ensures.under_way;
      goes_on = goes_on-more c.args.design.now nets c.loop-net.net-index c.settle.new.self.journal.blocks c.loop-net.run.journal.blocks c.args.journal.blocks ordered.ordered c.loop-net-test.true c.loop-net.invariant.goes_on c.in_ok-settle.ensures.adds;
      done = subst (λ (ns : List ℕ). All (IsDone c.settle.new.self.state) ns) (sym (take_more nets c.loop-net.net-index 0 c.loop-net-test.true))
          (All-push (IsDone c.settle.new.self.state) (take c.loop-net.net-index nets) n
          (all_weaker (IsDone c.loop-net.run.state) (IsDone c.settle.new.self.state) (take c.loop-net.net-index nets) (λ m done. c.in_ok-settle.ensures.done m (inr done)) c.loop-net.invariant.done)
          (c.in_ok-settle.ensures.done n (inl refl)));
    }

pub returns-clause-begins : goal.returns-clause-begins
returns-clause-begins c = let goes = c.loop-net.invariant.goes_on in (goes.added, goes.whole)

pub returns-clause-order : goal.returns-clause-order
returns-clause-order c = let goes = c.loop-net.invariant.goes_on in record { added = goes.added; whole = goes.whole; order = goes.order }

pub returns-clause-finished : goal.returns-clause-finished
returns-clause-finished c =
    let nets : List ℕ = c.as_slice-net-items.result.now in
    let ordered : IsOrder c.args.design.now nets = subst (IsOrder c.args.design.now) (sym c.as_slice-net-items.ensures.value) c.in_ok-order.ensures in
    let done : All (IsDone c.loop-net.run.state) nets = subst (λ (ns : List ℕ). All (IsDone c.loop-net.run.state) ns) (take_all c.loop-net.net-index nets c.loop-net-test.false) c.loop-net.invariant.done in
    record {
      history = c.loop-net.invariant.under_way.history;
      finished = subst (IsFinished c.args.design.now) c.loop-net.invariant.under_way.state (IsFinished-order c.args.design.now c.loop-net.run.state nets ordered done);
    }

pub returns-clause-headline : goal.returns-clause-headline
returns-clause-headline c = IsFinishedHistory-headline c.args.design.now c.loop-net.run.journal.blocks (returns-clause-finished c)

pub returns-clause-blocks : goal.returns-clause-blocks
returns-clause-blocks c = history-journal_of c.args.design.now c.loop-net.run.journal.blocks c.requires.design c.loop-net.invariant.under_way.history

pub returns-clause-state : goal.returns-clause-state
returns-clause-state c = history-kept c.args.design.now c.loop-net.run.journal.blocks c.requires.design c.loop-net.invariant.under_way.history
