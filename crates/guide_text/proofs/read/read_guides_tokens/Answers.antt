use Rattle.rt_forms.proofs.Whole.{reads_text}
use Rattle.guide_text.specs.Faults.{guide_faults}
use Rattle.guide_text.specs.Guides.{guides}
use Rattle.guide_text.proofs.Grammar.{lawful_guides, guides_is}
use Rattle.guide_text.proofs.read.read_guides_tokens.Goals as goal

pub returns-clause-reads : goal.returns-clause-reads
returns-clause-reads c = reads_text guide_faults (λ x. x) guides lawful_guides guides_is c.args.text.now c.args.tokens.now _ c.guides.result (rw c.new-words.ensures.words at c.guides.ensures.reads)
