-- What a state's shapes become after a change of one net, counted.
use Rattle.std.proofs.Common.{◌≡◌, ℕ, ◌+◌, ◌<◌, ◌≤◌, refl, sym, subst, length, get_or, arith}
use Rattle.std.specs.List.{sum_by}
use Rattle.std.proofs.lemmas.List.Sums.{sum_by-append}
use Rattle.std.proofs.lemmas.Option.{unwrap_or-slice_get}
use Rattle.rt_base.specs.declared.tech.Shape.{Shape}
use Rattle.track_graph.specs.declared.design.Design.{Design}
use Rattle.track_graph.specs.declared.history.NetState.{NetState}
use Rattle.track_graph.specs.declared.history.State.{State}
use Rattle.track_graph.specs.States.{net_shapes, net_state, standing, with_net}
use Rattle.track_graph.proofs.StateLemmas.{blank}
use Rattle.standing_shapes.proofs.StandingLemmas.{standing-set}
use Rattle.search.specs.Views.{state_shapes}

-- the shapes that the net had leave, and those that it has now come
pub state-sums : (d : Design) (s : State) (n : ℕ) (net : NetState) (measure : Shape → ℕ) → n < length s.nets
    → sum_by measure (state_shapes d (with_net s n net)) + sum_by measure (net_shapes d n (net_state s n)) ≡ sum_by measure (state_shapes d s) + sum_by measure (net_shapes d n net)
state-sums d s n net measure l =
    let had : net_state s n ≡ get_or s.nets n blank = unwrap_or-slice_get s.nets n blank in
    let old_parts : sum_by measure (state_shapes d s) ≡ sum_by measure d.fixed + sum_by measure (standing d s) = sum_by-append measure d.fixed (standing d s) in
    let new_parts : sum_by measure (state_shapes d (with_net s n net)) ≡ sum_by measure d.fixed + sum_by measure (standing d (with_net s n net)) = sum_by-append measure d.fixed (standing d (with_net s n net)) in
    let set : sum_by measure (standing d (with_net s n net)) + sum_by measure (net_shapes d n (net_state s n)) ≡ sum_by measure (standing d s) + sum_by measure (net_shapes d n net) =
    subst (λ (own : NetState). sum_by measure (standing d (with_net s n net)) + sum_by measure (net_shapes d n own) ≡ sum_by measure (standing d s) + sum_by measure (net_shapes d n net)) (sym had)
    (standing-set d measure s.nets n 0 n net l (omega arith)) in
    omega arith

-- whatever is counted, a net's shapes count no more than all
pub net-sums : (d : Design) (s : State) (n : ℕ) (measure : Shape → ℕ) → n < length s.nets → sum_by measure (net_shapes d n (net_state s n)) ≤ sum_by measure (state_shapes d s)
net-sums d s n measure l =
    let nothing : sum_by measure (net_shapes d n blank) ≡ 0 = refl in
    omega (arith, state-sums d s n blank measure l)
