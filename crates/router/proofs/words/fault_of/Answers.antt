use Rattle.std.proofs.Common.{sym}
use Rattle.router.proofs.WordLemmas.{six_words}
use Rattle.router.proofs.words.fault_of.Goals as goal

pub returns-in-None-clause-whole : goal.returns-in-None-clause-whole
returns-in-None-clause-whole c = λ _. six_words c.args.words.now (sym c.in_default.ensures.word)
