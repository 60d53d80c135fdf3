use Rattle.std.proofs.Common.{◌∙◌}
use Rattle.least_walk.proofs.Lists.{label_read}
use Rattle.least_walk.proofs.Following.{number_in, within_got, expanded}
use Rattle.least_walk.proofs.label.Search.expand.Goals as goal

pub edges-requires-clause-from : goal.edges-requires-clause-from
edges-requires-clause-from g c = within_got _ _ _ _ _ _ _ _ _ c.requires.mid _ (label_read _ _ c.index.result.now (number_in _ _ _ _ _ _ _ _ _ _ c.requires.mid) c.index.ensures)

pub returns-clause-sound : goal.returns-clause-sound
returns-clause-sound g c =
    let l = number_in _ _ _ _ _ _ _ _ _ _ c.requires.mid in
    expanded _ _ _ _ _ _ _ _ _ c.edges-2.new.edges c.as_slice.result.now c.index.result.now c.in_ok-relax.ensures.mid c.as_slice.ensures
    (c.in_ok-relax.ensures.extends.same c.args.number l ∙ label_read _ _ c.index.result.now l c.index.ensures)
    c.in_ok-edges.ensures.all
