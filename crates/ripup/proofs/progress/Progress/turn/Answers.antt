use Rattle.std.proofs.Common.{rules, ◌≡◌, ◌≤◌, false}
use Rattle.track_graph.specs.States.{net_state}
use Rattle.ripup.specs.Progress.{is_waiting}
use Rattle.ripup.proofs.ProgressLemmas.{under_way-kept, under_way-within}
use Rattle.ripup.proofs.TurnLemmas.{ripped-nets_of, turn-idle, turned}
use Rattle.ripup.proofs.progress.Progress.turn.Goals as goal

pub is_waiting-requires : goal.is_waiting-requires
is_waiting-requires c = under_way-within c.args.design.now c.args.self.now c.args.net c.requires.design c.requires.under_way c.requires.routable

pub returns-then-not-is_waiting : goal.returns-then-not-is_waiting
returns-then-not-is_waiting c =
    let idle : is_waiting (net_state c.args.self.now.state c.args.net) ≡ false = search rules in
    turn-idle c.args.design.now c.args.net c.args.self.now c.args.todo.now.items c.requires.under_way idle

pub next_block-requires-clause-state : goal.next_block-requires-clause-state
next_block-requires-clause-state c = under_way-kept c.args.design.now c.args.self.now c.requires.design c.requires.under_way

pub push_ripped-requires : goal.push_ripped-requires
push_ripped-requires c =
    ripped-nets_of c.args.design.now c.args.self.now.state c.in_ok-block.block c.requires.design
    (under_way-kept c.args.design.now c.args.self.now c.requires.design c.requires.under_way) c.in_ok-block.ensures.right

pub returns : goal.returns
returns c =
    let few : c.args.design.now.options.rips ≤ 255 = search rules in
    turned c.args.design.now c.args.net c.add.result c.add.new.self c.args.self.now c.in_ok-block.block c.push.new.self.items c.push_ripped.new.todo.items c.args.todo.now.items
    c.requires.design few c.requires.under_way c.in_ok-block.ensures.right c.in_ok-block.ensures.net c.in_ok-push_ripped.ensures c.in_ok-push.ensures.items
    c.add.ensures.under_way c.add.ensures.blocks c.add.ensures.state
