-- States: what stands of each net after the blocks of a journal.
use Rattle.std.specs.Prelude.{ℕ, ◌+◌, List, [], ◌∷◌, ◌++◌, Bool, true, false, if◌then◌else◌, nat_lt, map, fold, flat_map, slice_get, slice_set, unwrap_or, Option, Some, None}
use Rattle.rt_base.specs.declared.tech.Shape.{Shape}
use Rattle.rt_base.specs.declared.walk.EntryKind.{EntryKind}
use Rattle.rt_base.specs.declared.walk.Walk.{Walk}
use Rattle.track_graph.specs.declared.design.Design.{Design}
use Rattle.track_graph.specs.declared.design.Net.{Net}
use Rattle.track_graph.specs.declared.design.Pin.{Pin}
use Rattle.track_graph.specs.declared.history.Block.{Block}
use Rattle.track_graph.specs.declared.history.Block.TheVariants.{Wire, Stuck, RipFor}
use Rattle.track_graph.specs.declared.history.NetState.{NetState}
use Rattle.track_graph.specs.declared.history.State.{State}
use Rattle.track_graph.specs.Entries.{pin_of}
use Rattle.track_graph.specs.Walks.{walk_shapes_of}

-- of these pins the first one is joined
abbrev pub first_joined : List Pin → List Bool
first_joined [] = []
first_joined (p ∷ ps) = true ∷ map (λ _. false) ps

-- no walk, no rip, no mark
abbrev pub fresh : Net → NetState
fresh net = record { walks = []; joined = first_joined net.pins; rips = 0; stuck = false }

abbrev pub first_state : Design → State
first_state d = record { nets = map fresh d.nets }

-- what stands of a net; nothing where there is no such net
abbrev pub net_state : State → ℕ → NetState
net_state s n = unwrap_or (slice_get s.nets n) (record { walks = []; joined = []; rips = 0; stuck = false })

abbrev pub with_net : State → ℕ → NetState → State
with_net s n net = record { nets = slice_set s.nets n net }

abbrev pub set_at : Option ℕ → List Bool → List Bool
set_at None joined = joined
set_at (Some pin) joined = slice_set joined pin true

-- the pin of the entry is joined too
abbrev pub join_pin : EntryKind → List Bool → List Bool
join_pin kind joined = set_at (pin_of kind) joined

-- one walk more, and the pin of its finish joined
abbrev pub with_walk : State → ℕ → Walk → State
with_walk s n w =
    let net = net_state s n in
    with_net s n (record { walks = net.walks ++ w ∷ []; joined = join_pin w.finish.kind net.joined; rips = net.rips; stuck = net.stuck })

abbrev pub with_mark : State → ℕ → State
with_mark s n =
    let net = net_state s n in
    with_net s n (record { walks = net.walks; joined = net.joined; rips = net.rips; stuck = true })

-- of these pins only the first one is joined
abbrev pub keep_first : List Bool → List Bool
keep_first [] = []
keep_first (b ∷ bs) = true ∷ map (λ _. false) bs

-- no walk, only the first pin joined, one rip more up to 255, no mark
abbrev pub emptied_net : NetState → NetState
emptied_net net = record { walks = []; joined = keep_first net.joined; rips = if nat_lt net.rips 255 then net.rips + 1 else net.rips; stuck = false }

-- these nets emptied
abbrev pub emptied : State → List ℕ → State
emptied s [] = s
emptied s (n ∷ ns) = emptied (with_net s n (emptied_net (net_state s n))) ns

-- the state after a block
abbrev pub after : State → Block → State
after s (Wire n w) = with_walk s n w
after s (Stuck n) = with_mark s n
after s (RipFor n soft ripped w) = with_walk (emptied s ripped) n w

-- the state after a list of blocks
abbrev pub state_of : Design → List Block → State
state_of d blocks = fold after (first_state d) blocks

-- the shapes of a net's standing walks
abbrev pub net_shapes : Design → ℕ → NetState → List Shape
net_shapes d n net = flat_map (walk_shapes_of d n) net.walks

-- the shapes of the standing walks of the nets that a test names; the first of the list has number n
abbrev pub standing_from : Design → (ℕ → NetState → Bool) → ℕ → List NetState → List Shape
standing_from d test n [] = []
standing_from d test n (net ∷ nets) = (if test n net then net_shapes d n net else []) ++ standing_from d test (n + 1) nets

abbrev pub every_net : ℕ → NetState → Bool
every_net n net = true

-- the shapes of all standing walks
abbrev pub standing : Design → State → List Shape
standing d s = standing_from d every_net 0 s.nets
