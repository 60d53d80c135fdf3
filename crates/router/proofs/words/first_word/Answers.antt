use Rattle.std.proofs.Common.{◌+◌, ◌∙◌, length, sym}
use Rattle.router.specs.Words.{word_texts, is_sought}
use Rattle.router.proofs.WordLemmas.{find_on}
use Rattle.router.proofs.words.first_word.Goals as goal

pub loop-n-preserved : goal.loop-n-preserved
loop-n-preserved c = c.loop-n.invariant ∙ find_on (is_sought c.args.sought (word_texts c.args.words.now)) c.loop-n.n (length c.args.words.now + 2) c.loop-n-test.true (sym c.is_sought.ensures ∙ c.if-is_sought.false)
