use Rattle.rt_forms.specs.Clauses.{ReadsText}
use Rattle.rt_forms.proofs.Bytes.{bytes_read, bytes_unread, memory_text}
use Rattle.guide_text.specs.declared.error.GuideError.TheVariants.{Scan}
use Rattle.guide_text.specs.Faults.{guide_faults}
use Rattle.guide_text.specs.Guides.{guides}
use Rattle.guide_text.proofs.read.read_guides.Goals as goal

pub returns-in-Ok-clause-reads : goal.returns-in-Ok-clause-reads
returns-in-Ok-clause-reads c = bytes_read guide_faults Scan (λ tokens r. ReadsText guide_faults (λ x. x) guides c.args.text.now tokens r) c.args.text.now c.tokens.result c.in-Ok.tokens c.read_guides_tokens.result c.in-Ok.is c.tokens.ensures.found c.tokens.ensures.only (rw c.as_slice.ensures.value at c.read_guides_tokens.ensures.reads)

pub returns-in-Err-clause-reads : goal.returns-in-Err-clause-reads
returns-in-Err-clause-reads c = rw c.unread.ensures (bytes_unread guide_faults Scan (λ tokens r. ReadsText guide_faults (λ x. x) guides c.args.text.now tokens r) c.args.text.now c.in-Err.error (λ p s. let q = c.tokens.ensures.only p s in rw c.in-Err.is at q) (λ tokens. memory_text guide_faults guides c.args.text.now tokens))
