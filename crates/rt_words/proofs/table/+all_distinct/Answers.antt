use Rattle.std.proofs.Common.{◌∙◌, sym}
use Rattle.rt_words.proofs.Words.{distinct_first}
use Rattle.rt_words.proofs.table.+all_distinct.Goals as goal

pub returns-then-not-any_means : goal.returns-then-not-any_means
returns-then-not-any_means t c =
    let first = distinct_first c.args.rows.now _ _ c.in-len1-up.len_at_least c.word_of.ensures c.any_means.ensures in
    c.all_distinct.ensures ∙ sym (rw c.if-not-any_means.true at first)

pub returns-else-not-any_means : goal.returns-else-not-any_means
returns-else-not-any_means t c =
    let first = distinct_first c.args.rows.now _ _ c.in-len1-up.len_at_least c.word_of.ensures c.any_means.ensures in
    rw c.if-not-any_means.false (sym (rw c.if-not-any_means.false at first))
