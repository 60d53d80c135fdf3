-- A right block is one of the design, and so is each history.
use Rattle.std.proofs.Common.{ℕ, ◌+◌, ◌<◌, List, [], ◌∷◌, ◌++◌, Bool, true, false, cond, ◌&&◌, sym, subst, length, get_or, fold, All, arith}
use Rattle.std.proofs.lemmas.List.Elements.{All-nil, All-cons}
use Rattle.rt_base.specs.declared.walk.Walk.{Walk}
use Rattle.track_graph.specs.declared.design.Design.{Design}
use Rattle.track_graph.specs.declared.history.Block.{Block}
use Rattle.track_graph.specs.declared.history.Block.TheVariants.{Wire, Stuck, RipFor}
use Rattle.track_graph.specs.declared.history.NetState.{NetState}
use Rattle.track_graph.specs.declared.history.State.{State}
use Rattle.track_graph.specs.Conditions.{IsNetOf, IsBlockOf, IsJournalOf, IsStateOf}
use Rattle.track_graph.specs.Designs.{IsDesign}
use Rattle.track_graph.specs.Histories.{IsRight, IsHistory, IsHistoryFrom, crossed_from}
use Rattle.track_graph.specs.Readings.{may_rip}
use Rattle.track_graph.specs.Searches.{some_conflict}
use Rattle.track_graph.specs.States.{after, first_state, net_shapes, state_of}
use Rattle.track_graph.specs.Walks.{walk_shapes_of}
use Rattle.track_graph.proofs.StateLemmas.{emptied-kept, with_walk-kept, with_mark-kept, first-kept}
use Rattle.track_graph.proofs.WalkLemmas.{routable_within, walk_in_state}

-- the nets that are crossed are some of these
crossed-within : (d : Design) (n : ℕ) (soft : Walk) (m : ℕ) (nets : List NetState) → All (λ k. k < m + length nets) (crossed_from d n soft m nets)
crossed-within d n soft m [] = All-nil (λ k. k < m + 0)
crossed-within d n soft m (net ∷ nets) = by_test (may_rip d n m net && some_conflict d.tech (walk_shapes_of d n soft) (net_shapes d m net)) (crossed_from d n soft (m + 1) nets)
    (λ i x l. let below : get_or (crossed_from d n soft (m + 1) nets) i x < m + 1 + length nets = crossed-within d n soft (m + 1) nets i x l in omega arith)
  where
    by_test : (b : Bool) (rest : List ℕ) → All (λ k. k < m + length (net ∷ nets)) rest → All (λ k. k < m + length (net ∷ nets)) (cond b (m ∷ []) [] ++ rest)
    by_test true rest h = All-cons (λ k. k < m + length (net ∷ nets)) m rest (omega arith) h
    by_test false rest h = h

pub crossed-nets_of : (d : Design) (s : State) (n : ℕ) (soft : Walk) → IsStateOf d s → All (IsNetOf d) (crossed_from d n soft 0 s.nets)
crossed-nets_of d s n soft of_design i x l =
    let below : get_or (crossed_from d n soft 0 s.nets) i x < 0 + length s.nets = crossed-within d n soft 0 s.nets i x l in
    omega (arith, of_design.nets)

-- a right block is one of the design
pub right-block_of : (d : Design) (s : State) (b : Block) → IsDesign d → IsStateOf d s → IsRight d s b → IsBlockOf d b
right-block_of d s (Wire n w) ok of_design h = walk_in_state d s n w ok of_design h.waiting.routable h.walk.legal.walk
right-block_of d s (Stuck n) ok of_design h = routable_within d n h.waiting.routable
right-block_of d s (RipFor n soft ripped w) ok of_design h = record {
  nets = subst (λ (ns : List ℕ). All (IsNetOf d) ns) (sym h.ripped_exactly) (crossed-nets_of d s n soft of_design);
  soft_walk = walk_in_state d s n soft ok of_design h.waiting.routable h.soft_least.legal.walk;
  walk = walk_in_state d s n w ok of_design h.waiting.routable h.walk.legal.walk;
}

-- the state after a block of the design is one of the design
pub after-kept : (d : Design) (s : State) (b : Block) → IsStateOf d s → IsBlockOf d b → IsStateOf d (after s b)
after-kept d s (Wire n w) h b = with_walk-kept d s n w h b
after-kept d s (Stuck n) h b = with_mark-kept d s n h b
after-kept d s (RipFor n soft ripped w) h b = with_walk-kept d _ n w (emptied-kept d s ripped h b.nets) b.walk

history-from : (d : Design) (s : State) (blocks : List Block) → IsDesign d → IsStateOf d s → IsHistoryFrom d s blocks → IsJournalOf d blocks
history-from d s [] ok of_design h = All-nil (IsBlockOf d)
history-from d s (b ∷ bs) ok of_design h =
    let block : IsBlockOf d b = right-block_of d s b ok of_design h.0 in
    All-cons (IsBlockOf d) b bs block (history-from d (after s b) bs ok (after-kept d s b of_design block) h.1)

-- a history is a journal of the design
pub history-journal_of : (d : Design) (blocks : List Block) → IsDesign d → IsHistory d blocks → IsJournalOf d blocks
history-journal_of d blocks ok h = history-from d (first_state d) blocks ok (first-kept d) h

kept-from : (d : Design) (s : State) (blocks : List Block) → IsDesign d → IsStateOf d s → IsHistoryFrom d s blocks → IsStateOf d (fold after s blocks)
kept-from d s [] ok of_design h = of_design
kept-from d s (b ∷ bs) ok of_design h = kept-from d (after s b) bs ok (after-kept d s b of_design (right-block_of d s b ok of_design h.0)) h.1

-- and the state after it is one of the design
pub history-kept : (d : Design) (blocks : List Block) → IsDesign d → IsHistory d blocks → IsStateOf d (state_of d blocks)
history-kept d blocks ok h = kept-from d (first_state d) blocks ok (first-kept d) h
