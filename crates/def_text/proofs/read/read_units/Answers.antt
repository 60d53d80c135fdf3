use Rattle.rt_forms.proofs.Bytes.{bytes_read, bytes_unread}
use Rattle.def_text.specs.declared.error.DefError.TheVariants.{Scan}
use Rattle.def_text.specs.Faults.{def_faults}
use Rattle.def_text.specs.Texts.{units_form}
use Rattle.def_text.specs.Clauses.{ReadsBeginning}
use Rattle.def_text.proofs.Readers.{memory_beginning}
use Rattle.def_text.proofs.read.read_units.Goals as goal

pub returns-in-Ok : goal.returns-in-Ok
returns-in-Ok c = bytes_read def_faults Scan (λ tokens r. ReadsBeginning units_form c.args.text.now tokens r) c.args.text.now c.tokens.result c.in-Ok.tokens c.read_units_tokens.result c.in-Ok.is c.tokens.ensures.found c.tokens.ensures.only (rw c.as_slice.ensures.value at c.read_units_tokens.ensures)

pub returns-in-Err : goal.returns-in-Err
returns-in-Err c = rw c.unread.ensures (bytes_unread def_faults Scan (λ tokens r. ReadsBeginning units_form c.args.text.now tokens r) c.args.text.now c.in-Err.error (λ p s. let q = c.tokens.ensures.only p s in rw c.in-Err.is at q) (λ tokens. memory_beginning units_form c.args.text.now tokens))
