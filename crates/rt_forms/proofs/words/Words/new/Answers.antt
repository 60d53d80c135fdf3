use Rattle.rt_forms.proofs.Ends.{length_ended}
use Rattle.rt_forms.proofs.words.Words.new.Goals as goal

pub returns-clause-count : goal.returns-clause-count
returns-clause-count g c = length_ended c.args.text.now c.args.tokens.now c.last_line-last.result
