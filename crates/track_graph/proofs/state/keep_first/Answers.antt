use Rattle.std.proofs.Common.{◌∙◌, List, Bool, true, ap, slice_set, arith, rules}
use Rattle.std.proofs.lemmas.Bool.Decides.{nat_tests}
use Rattle.track_graph.proofs.StateLemmas.{keep_first-replicate}
use Rattle.track_graph.proofs.state.keep_first.Goals as goal

pub returns-then-not-is_empty : goal.returns-then-not-is_empty
returns-then-not-is_empty c =
    ap (λ (bs : List Bool). slice_set bs 0 true) (c.fill.ensures.after (search rules))
    ∙ keep_first-replicate c.args.joined.now (grind (arith, nat_tests))
