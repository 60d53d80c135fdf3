use Rattle.rt_forms.specs.Clauses.{ReadsText}
use Rattle.rt_forms.proofs.Bytes.{bytes_read, bytes_unread, memory_text}
use Rattle.def_text.specs.declared.error.DefError.TheVariants.{Scan}
use Rattle.def_text.specs.Faults.{def_faults}
use Rattle.def_text.specs.Texts.{def_form}
use Rattle.def_text.proofs.read.read_def.Goals as goal

pub returns-in-Ok-clause-reads : goal.returns-in-Ok-clause-reads
returns-in-Ok-clause-reads c = bytes_read def_faults Scan (λ tokens r. ReadsText def_faults (λ x. x) def_form c.args.text.now tokens r) c.args.text.now c.tokens.result c.in-Ok.tokens c.read_def_tokens.result c.in-Ok.is c.tokens.ensures.found c.tokens.ensures.only (rw c.as_slice.ensures.value at c.read_def_tokens.ensures.reads)

pub returns-in-Err-clause-reads : goal.returns-in-Err-clause-reads
returns-in-Err-clause-reads c = rw c.unread.ensures (bytes_unread def_faults Scan (λ tokens r. ReadsText def_faults (λ x. x) def_form c.args.text.now tokens r) c.args.text.now c.in-Err.error (λ p s. let q = c.tokens.ensures.only p s in rw c.in-Err.is at q) (λ tokens. memory_text def_faults def_form c.args.text.now tokens))
