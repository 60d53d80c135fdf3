use Rattle.std.proofs.Common.{◌∙◌, sym}
use Rattle.rt_words.proofs.Words.{are_distinct_fact, are_distinct_test}
use Rattle.rt_words.specs.Table.{words_of}
use Rattle.rt_words.proofs.table.distinct.Goals as goal

pub returns-clause-distinct : goal.returns-clause-distinct
returns-clause-distinct g c =
    let words = words_of c.args.table.now in
    (λ yes. are_distinct_fact words (sym c.all_distinct.ensures ∙ yes), λ h. c.all_distinct.ensures ∙ are_distinct_test words h)
