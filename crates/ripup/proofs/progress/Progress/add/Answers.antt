use Rattle.std.proofs.Common.{◌≡◌, ◌∙◌, List, [], ◌∷◌, ◌++◌, sym, ap, subst}
use Rattle.track_graph.specs.declared.history.Block.{Block}
use Rattle.track_graph.specs.declared.history.State.{State}
use Rattle.track_graph.specs.Histories.{IsHistory, IsRight}
use Rattle.track_graph.specs.States.{after, state_of}
use Rattle.standing_shapes.specs.Standing.{AreShapesOf}
use Rattle.track_graph.proofs.BlockLemmas.{right-block_of}
use Rattle.ripup.proofs.HistoryLemmas.{IsHistory-push, state_of-push}
use Rattle.ripup.proofs.ProgressLemmas.{under_way-kept}
use Rattle.ripup.proofs.progress.Progress.add.Goals as goal

pub push-requires-clause-state : goal.push-requires-clause-state
push-requires-clause-state c = under_way-kept c.args.design.now c.args.self.now c.requires.design c.requires.under_way

pub push-requires-clause-block : goal.push-requires-clause-block
push-requires-clause-block c =
    right-block_of c.args.design.now c.args.self.now.state c.args.block c.requires.design
    (under_way-kept c.args.design.now c.args.self.now c.requires.design c.requires.under_way)
    c.requires.right

pub add_block-requires-clause-state : goal.add_block-requires-clause-state
add_block-requires-clause-state c = under_way-kept c.args.design.now c.args.self.now c.requires.design c.requires.under_way

pub add_block-requires-clause-block : goal.add_block-requires-clause-block
add_block-requires-clause-block c =
    right-block_of c.args.design.now c.args.self.now.state c.args.block c.requires.design
    (under_way-kept c.args.design.now c.args.self.now c.requires.design c.requires.under_way)
    c.requires.right

pub returns-clause-under_way : goal.returns-clause-under_way
returns-clause-under_way c =
    let blocks : c.add.new.self.blocks ≡ c.args.self.now.journal.blocks ++ c.args.block ∷ [] = c.add.ensures ∙ ap (λ (bs : List Block). bs ++ c.args.block ∷ []) c.in_ok-reserve.ensures.blocks in
    let right : IsRight c.args.design.now (state_of c.args.design.now c.args.self.now.journal.blocks) c.args.block = subst (λ (s : State). IsRight c.args.design.now s c.args.block) c.requires.under_way.state c.requires.right in
    record {
      history = subst (IsHistory c.args.design.now) (sym blocks) (IsHistory-push c.args.design.now c.args.self.now.journal.blocks c.args.block c.requires.under_way.history right);
      state = c.in_ok-push.ensures.ok
          ∙ ap (λ (s : State). after s c.args.block) c.requires.under_way.state
          ∙ sym (state_of-push c.args.design.now c.args.self.now.journal.blocks c.args.block)
          ∙ ap (state_of c.args.design.now) (sym blocks);
      stored = subst (λ (s : State). AreShapesOf c.args.design.now s c.add_block.new.store) (sym c.in_ok-push.ensures.ok) c.in_ok-add_block.ensures;
    }
