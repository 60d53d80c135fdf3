use Rattle.std.proofs.Common.{◌≡◌, List, ℕ, Result, Ok, Err, OnOk, OnErr, subst, sym, All}
use Rattle.rt_base.specs.declared.memory.Memory.{Memory}
use Rattle.track_graph.specs.declared.design.Design.{Design}
use Rattle.track_graph.specs.declared.history.State.{State}
use Rattle.track_graph.specs.Conditions.{IsNetOf, IsRipOf, IsBlockOf, IsStateOf}
use Rattle.track_graph.specs.NetWalks.{IsWalkOf}
use Rattle.track_graph.specs.States.{emptied}
use Rattle.track_graph.proofs.StateLemmas.{with_mark-kept, with_walk-kept, emptied-kept}
use Rattle.track_graph.proofs.history.State.push.Goals as goal

-- a state is one of its design where both the one at Ok and the one at Err are
either_kept : {T : Type 0} (d : Design) (old new ok : State) (r : Result T Memory) → OnOk r (new ≡ ok) → OnErr r (new ≡ old) → IsStateOf d ok → IsStateOf d old → IsStateOf d new
either_kept d old new ok (Ok x) a b kept before = subst (IsStateOf d) (sym a) kept
either_kept d old new ok (Err e) a b kept before = subst (IsStateOf d) (sym b) before

pub returns-in_ok-copy_walk-in-Wire-clause-of_design : goal.returns-in_ok-copy_walk-in-Wire-clause-of_design
returns-in_ok-copy_walk-in-Wire-clause-of_design c =
    let wire : IsWalkOf c.args.design.now c.in-Wire.net c.in-Wire.walk = subst (IsBlockOf c.args.design.now) c.in-Wire.is c.requires.block in
    either_kept c.args.design.now c.args.self.now c.add_walk.new.self _ c.add_walk.result c.add_walk.ensures.ok c.add_walk.ensures.err
    (with_walk-kept c.args.design.now c.args.self.now c.in-Wire.net c.in_ok-copy_walk-in-Wire.field-0 c.requires.state (subst (IsWalkOf c.args.design.now c.in-Wire.net) (sym c.in_ok-copy_walk-in-Wire.ensures) wire))
    c.requires.state

pub returns-in-Stuck-clause-of_design : goal.returns-in-Stuck-clause-of_design
returns-in-Stuck-clause-of_design c =
    let net : IsNetOf c.args.design.now c.in-Stuck.net = subst (IsBlockOf c.args.design.now) c.in-Stuck.is c.requires.block in
    subst (IsStateOf c.args.design.now) (sym c.mark.ensures) (with_mark-kept c.args.design.now c.args.self.now c.in-Stuck.net c.requires.state net)

pub returns-in_ok-copy_walk-in-RipFor-clause-of_design : goal.returns-in_ok-copy_walk-in-RipFor-clause-of_design
returns-in_ok-copy_walk-in-RipFor-clause-of_design c =
    let rip : IsRipOf c.args.design.now c.in-RipFor.net c.in-RipFor.soft c.in-RipFor.ripped c.in-RipFor.walk = subst (IsBlockOf c.args.design.now) c.in-RipFor.is c.requires.block in
    let nets : All (IsNetOf c.args.design.now) c.as_slice.result.now = subst (λ (ns : List ℕ). All (IsNetOf c.args.design.now) ns) (sym c.as_slice.ensures) rip.nets in
    either_kept c.args.design.now c.args.self.now c.rip_for.new.self _ c.rip_for.result c.rip_for.ensures.ok c.rip_for.ensures.err
    (with_walk-kept c.args.design.now (emptied c.args.self.now c.as_slice.result.now) c.in-RipFor.net c.in_ok-copy_walk-in-RipFor.field-0
    (emptied-kept c.args.design.now c.args.self.now c.as_slice.result.now c.requires.state nets)
    (subst (IsWalkOf c.args.design.now c.in-RipFor.net) (sym c.in_ok-copy_walk-in-RipFor.ensures) rip.walk))
    c.requires.state
