use Rattle.std.proofs.Common.{◌≡◌, ◌≢◌, ◌∙◌, ℕ, ◌<◌, List, [], ◌∷◌, ◌++◌, ap, subst, sym, length, All, Contains, IfSome, arith}
use Rattle.track_graph.specs.declared.history.State.{State}
use Rattle.track_graph.specs.Entries.{pin_of}
use Rattle.track_graph.specs.States.{emptied, join_pin, net_state, with_net}
use Rattle.track_graph.proofs.StateLemmas.{emptied-with_walk, emptied-has_none, length-emptied, joined-emptied}
use Rattle.std.proofs.lemmas.Grind.{common_steps}
use Rattle.std.proofs.lemmas.Bool.Decides.{nat_tests}
use Rattle.rt_base.specs.declared.walk.EntryKind.{EntryKind}
use Rattle.rt_base.specs.declared.walk.Walk.{Walk}
use Rattle.track_graph.proofs.history.State.rip_for.Goals as goal

pub returns-then-not-contains-clause-ok : goal.returns-then-not-contains-clause-ok
returns-then-not-contains-clause-ok c =
    let others : All (λ m. m ≢ c.args.net) c.args.ripped.now = grind (arith, common_steps, nat_tests, c.if-not-contains.ensures.cases) in
    c.empty.ensures
    ∙ ap (λ (t : State). emptied t c.args.ripped.now) c.in_ok-add_walk.ensures.ok
    ∙ emptied-with_walk c.args.self.now c.args.net c.args.walk c.args.ripped.now others

pub replace_walks-requires-clause-net : goal.replace_walks-requires-clause-net
replace_walks-requires-clause-net c =
    rw (ap (λ (t : State). length t.nets) c.empty-2.ensures ∙ length-emptied c.args.self.now c.args.ripped.now) c.requires.net

pub replace_walks-requires-clause-pin : goal.replace_walks-requires-clause-pin
replace_walks-requires-clause-pin c =
    let same : length (net_state c.empty-2.new.self c.args.net).joined ≡ length (net_state c.args.self.now c.args.net).joined =
    ap (λ (t : State). length (net_state t c.args.net).joined) c.empty-2.ensures ∙ joined-emptied c.args.self.now c.args.ripped.now c.args.net c.requires.net in
    subst (λ (k : ℕ). IfSome (pin_of c.args.walk.finish.kind) (λ pin. pin < k)) (sym same) c.requires.pin

-- a net with these walks and one pin more joined
abbrev with_walks : State → ℕ → EntryKind → List Walk → State
with_walks s n kind ws = with_net s n (record { walks = ws; joined = join_pin kind (net_state s n).joined; rips = (net_state s n).rips; stuck = (net_state s n).stuck })

pub returns-clause-ok : goal.returns-clause-ok
returns-clause-ok c =
    let there : Contains c.args.ripped.now c.args.net = grind (arith, common_steps, nat_tests, c.if-not-contains.ensures.cases) in
    let s : State = emptied c.args.self.now c.args.ripped.now in
    let none : (net_state s c.args.net).walks ≡ [] = emptied-has_none c.args.self.now c.args.net c.args.ripped.now c.requires.net there in
    let one : c.push.new.self ≡ (net_state s c.args.net).walks ++ c.args.walk ∷ [] =
    c.in_ok-push.ensures.ok ∙ ap (λ (ws : List Walk). ws ++ c.args.walk ∷ []) (c.new-walks.ensures ∙ sym none) in
    c.replace_walks.ensures
    ∙ ap (λ (t : State). with_walks t c.args.net c.args.walk.finish.kind c.push.new.self) c.empty-2.ensures
    ∙ ap (λ (ws : List Walk). with_walks s c.args.net c.args.walk.finish.kind ws) one
