use Rattle.rt_forms.specs.Reading.{ends_option}
use Rattle.def_text.proofs.Ranges.{left_from_first}
use Rattle.def_text.proofs.parts.option_tail.Goals as goal

pub returns-clause-left : goal.returns-clause-left
returns-clause-left c = rw c.option_rest.ensures.words (left_from_first ends_option c.args.words.now)
