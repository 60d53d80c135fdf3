-- Histories: they come in parts, and go on with a right block.
use Rattle.std.proofs.Common.{◌≡◌, List, [], ◌∷◌, ◌++◌, fold}
use Rattle.std.proofs.lemmas.List.Sums.{fold-append}
use Rattle.track_graph.specs.declared.design.Design.{Design}
use Rattle.track_graph.specs.declared.history.Block.{Block}
use Rattle.track_graph.specs.declared.history.State.{State}
use Rattle.track_graph.specs.Histories.{IsRight, IsHistory, IsHistoryFrom}
use Rattle.track_graph.specs.States.{after, first_state, state_of}

-- a history from a state on comes in two parts
pub history-parts : (d : Design) (s : State) (before rest : List Block) → IsHistoryFrom d s (before ++ rest) → IsHistoryFrom d s before × IsHistoryFrom d (fold after s before) rest
history-parts d s [] rest h = (tt, h)
history-parts d s (b ∷ bs) rest h = let parts : IsHistoryFrom d (after s b) bs × IsHistoryFrom d (fold after (after s b) bs) rest = history-parts d (after s b) bs rest h.1 in ((h.0, parts.0), parts.1)

history-push : (d : Design) (s : State) (bs : List Block) (b : Block) → IsHistoryFrom d s bs → IsRight d (fold after s bs) b → IsHistoryFrom d s (bs ++ b ∷ [])
history-push d s [] b h right = (right, tt)
history-push d s (x ∷ xs) b h right = (h.0, history-push d (after s x) xs b h.1 right)

-- a right block goes on with a history
pub IsHistory-push : (d : Design) (blocks : List Block) (b : Block) → IsHistory d blocks → IsRight d (state_of d blocks) b → IsHistory d (blocks ++ b ∷ [])
IsHistory-push d blocks b h right = history-push d (first_state d) blocks b h right

pub state_of-push : (d : Design) (blocks : List Block) (b : Block) → state_of d (blocks ++ b ∷ []) ≡ after (state_of d blocks) b
state_of-push d blocks b = fold-append after (first_state d) blocks (b ∷ [])
