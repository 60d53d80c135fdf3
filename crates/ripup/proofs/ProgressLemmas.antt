-- The state of a run, and when a history is finished.
use Rattle.std.proofs.Common.{ℕ, ◌<◌, List, sym, subst, length, All}
use Rattle.std.proofs.lemmas.List.Elements.{All-contains}
use Rattle.track_graph.specs.declared.design.Design.{Design}
use Rattle.track_graph.specs.declared.history.State.{State}
use Rattle.track_graph.specs.Designs.{IsDesign}
use Rattle.track_graph.specs.Histories.{IsFinished, IsRoutable}
use Rattle.track_graph.specs.Conditions.{IsStateOf}
use Rattle.track_graph.specs.Orders.{IsOrder}
use Rattle.ripup.specs.declared.progress.Progress.{Progress}
use Rattle.ripup.specs.Progress.{IsDone, IsUnderWay}
use Rattle.track_graph.proofs.BlockLemmas.{history-kept}
use Rattle.track_graph.proofs.WalkLemmas.{routable_within}

-- the state of a run is one of the design
pub under_way-kept : (d : Design) (run : Progress) → IsDesign d → IsUnderWay d run → IsStateOf d run.state
under_way-kept d run ok h = subst (IsStateOf d) (sym h.state) (history-kept d run.journal.blocks ok h.history)

-- it has each routable net
pub under_way-within : (d : Design) (run : Progress) (n : ℕ) → IsDesign d → IsUnderWay d run → IsRoutable d n → n < length run.state.nets
under_way-within d run n ok h routable = subst (λ (k : ℕ). n < k) (sym (under_way-kept d run ok h).nets) (routable_within d n routable)

-- where all nets of an order are done the history is finished
pub IsFinished-order : (d : Design) (s : State) (ns : List ℕ) → IsOrder d ns → All (IsDone s) ns → IsFinished d s
IsFinished-order d s ns order done n routable = All-contains (IsDone s) ns n done ((order.has n).1 routable)
