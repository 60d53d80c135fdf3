-- What a history promises at each of its blocks.
use Rattle.std.proofs.Common.{◌∙◌, ⊎_elim, List, ◌∷◌, ◌++◌, subst, Contains}
use Rattle.std.proofs.lemmas.List.Elements.{Contains-append_cases, Contains-append_left}
use Rattle.track_graph.specs.declared.design.Design.{Design}
use Rattle.track_graph.specs.declared.history.Block.{Block}
use Rattle.track_graph.specs.declared.history.State.{State}
use Rattle.track_graph.specs.Histories.{IsFinishedHistory, IsRight, IsHistory}
use Rattle.track_graph.specs.Rules.{BreaksNoRule}
use Rattle.track_graph.specs.States.{first_state, state_of, standing}
use Rattle.track_graph.proofs.Rules.{IsHistory-breaks_no_rule, conflict_flip}
use Rattle.ripup.specs.Headline.{BeginsWith, StandsBehind, NoneConflict, IsClearAtAnyTime, IsLeastAtItsPlace, AreRippedForWant, IsStuckForWant, IsHeadline}
use Rattle.ripup.proofs.HistoryLemmas.{history-parts}
use Rattle.ripup.proofs.MarkLemmas.{IsFinishedHistory-marked}

-- the beginning of a history is one
IsHistory-begin : (d : Design) (blocks before : List Block) → IsHistory d blocks → BeginsWith blocks before → IsHistory d before
IsHistory-begin d blocks before h (rest, e) = (history-parts d (first_state d) before rest (subst (IsHistory d) e h)).0

-- each block of a history is right in the state of those before it
IsHistory-right : (d : Design) (blocks before : List Block) (b : Block) → IsHistory d blocks → StandsBehind blocks before b → IsRight d (state_of d before) b
IsHistory-right d blocks before b h (rest, e) = (history-parts d (first_state d) before (b ∷ rest) (subst (IsHistory d) e h)).1.0

-- where no two fixed shapes conflict and no wire does, no two shapes do
none_conflict : (d : Design) (s : State) → NoneConflict d.tech d.fixed → BreaksNoRule d s → NoneConflict d.tech (d.fixed ++ standing d s)
none_conflict d s fixed wires a b ha hb = ⊎_elim
    (λ (fa : Contains d.fixed a). ⊎_elim
    (λ (fb : Contains d.fixed b). fixed a b fa fb)
    (λ (sb : Contains (standing d s) b). conflict_flip d.tech a b ∙ wires b a sb (Contains-append_left d.fixed (standing d s) a fa))
    (Contains-append_cases d.fixed (standing d s) b hb))
    (λ (sa : Contains (standing d s) a). wires a b sa hb)
    (Contains-append_cases d.fixed (standing d s) a ha)

history-clear : (d : Design) (blocks : List Block) → IsHistory d blocks → IsClearAtAnyTime d blocks
history-clear d blocks h = record {
  wires = λ before begin. IsHistory-breaks_no_rule d before (IsHistory-begin d blocks before h begin);
  shapes = λ fixed before begin. none_conflict d (state_of d before) fixed (IsHistory-breaks_no_rule d before (IsHistory-begin d blocks before h begin));
}

history-least : (d : Design) (blocks : List Block) → IsHistory d blocks → IsLeastAtItsPlace d blocks
history-least d blocks h = record {
  wire = λ before n w stands. (IsHistory-right d blocks before _ h stands).walk;
  rip_for = λ before n soft ripped w stands. (IsHistory-right d blocks before _ h stands).walk;
}

history-rips : (d : Design) (blocks : List Block) → IsHistory d blocks → AreRippedForWant d blocks
history-rips d blocks h before n soft ripped w stands =
    let right = IsHistory-right d blocks before _ h stands in
    record { none = right.none; soft_least = right.soft_least; exactly = right.ripped_exactly; some = right.some_ripped }

history-stuck : (d : Design) (blocks : List Block) → IsHistory d blocks → IsStuckForWant d blocks
history-stuck d blocks h before n stands =
    let right = IsHistory-right d blocks before _ h stands in
    record { hard = right.none; soft = right.soft_none }

-- a finished history keeps what a journal promises
pub IsFinishedHistory-headline : (d : Design) (blocks : List Block) → IsFinishedHistory d blocks → IsHeadline d blocks
IsFinishedHistory-headline d blocks h = record {
  clear = history-clear d blocks h.history;
  least = history-least d blocks h.history;
  rips = history-rips d blocks h.history;
  stuck = history-stuck d blocks h.history;
  marked = IsFinishedHistory-marked d blocks h;
}
