use Rattle.lef_text.proofs.Bytes.{of_words, of_error}
use Rattle.lef_text.proofs.read.read_lef.Goals as goal

pub returns-in-Ok-clause-text : goal.returns-in-Ok-clause-text
returns-in-Ok-clause-text c = of_words c.args.units c.args.text.now c.in-Ok.words.items c.read_lef_tokens.result c.in-Ok.ensures.found c.in-Ok.ensures.only (rw c.deref.ensures.value at c.read_lef_tokens.ensures.text)

pub returns-in-Err-clause-text : goal.returns-in-Err-clause-text
returns-in-Err-clause-text c = rw c.scan_fault.ensures (of_error c.args.units c.args.text.now c.in-Err.error c.in-Err.ensures.found c.in-Err.ensures.only)
