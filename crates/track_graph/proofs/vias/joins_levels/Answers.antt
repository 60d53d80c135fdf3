use Rattle.std.proofs.Common.{◌∙◌, ◌+◌, sym, ap, is_some, IsTrue, rules, true}
use Rattle.track_graph.proofs.GraphLemmas.{level_within}
use Rattle.track_graph.proofs.vias.joins_levels.Goals as goal

pub returns : goal.returns
returns c =
    let t : IsTrue true = search rules in (
      λ _. record {
        upper_level = level_within _ (c.args.lower + 1) (ap is_some (sym c.layer_number.ensures) ∙ c.if-is_none.ensures);
        lower = rw c.layer_no.ensures at (c.if-not-stand_on.ensures.0 t);
        upper = rw c.layer_no-2.ensures at (c.if-not-stand_on-2.ensures.0 t);
      },
      λ _. t,
    )
