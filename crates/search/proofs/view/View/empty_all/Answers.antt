use Rattle.std.proofs.Common.{◌≡◌, ◌∙◌, ◌+◌, ◌∷◌, ◌++◌, [], List, ℕ, ap, sym, subst, take}
use Rattle.std.proofs.lemmas.List.{take_more}
use Rattle.search.specs.Views.{StandsFor}
use Rattle.search.proofs.StateChanges.{same-trans}
use Rattle.track_graph.specs.States.{emptied}
use Rattle.track_graph.specs.declared.history.State.{State}
use Rattle.track_graph.proofs.StateLemmas.{emptied-push}
use Rattle.search.proofs.view.View.empty_all.Goals as goal

pub loop-net-preserved : goal.loop-net-preserved
loop-net-preserved c = record {
  stands = λ s stood.
      let nets : List ℕ = c.args.nets.now in
      let i = c.loop-net.net-index in
      let before = c.loop-net.invariant.stands s stood in
      let more : take (i + 1) nets ≡ take i nets ++ _ ∷ [] = take_more nets i _ c.loop-net-test.true in
      subst (λ (t : State). StandsFor c.args.design.now t c.empty.new.self) (sym (ap (emptied s) more ∙ emptied-push s (take i nets) _)) (c.in_ok-empty.ensures.stands (emptied s (take i nets)) before);
  same = same-trans c.args.self.now c.loop-net.self c.empty.new.self c.loop-net.invariant.same c.in_ok-empty.ensures.keeps;
}
