use Rattle.std.proofs.Common.{◌&&◌, ◌∙◌, sym, bytes_eq}
use Rattle.router.specs.Words.{word_texts, word, is_at}
use Rattle.router.proofs.WordLemmas.{any_on}
use Rattle.router.proofs.words.stands_before.Goals as goal

pub loop-m-preserved : goal.loop-m-preserved
loop-m-preserved c = c.loop-m.invariant ∙ any_on (λ m. is_at c.args.place m && bytes_eq (word (word_texts c.args.words.now) m) (word (word_texts c.args.words.now) c.args.n)) c.loop-m.m c.args.n c.loop-m-test.true (sym c.is_same.ensures ∙ c.if-is_same.false)
