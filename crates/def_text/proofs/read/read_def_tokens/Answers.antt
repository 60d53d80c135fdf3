use Rattle.std.proofs.Common.{arith, ap, ◌∙◌}
use Rattle.rt_forms.specs.Lexeme.{last_line}
use Rattle.rt_forms.specs.Reading.{left_of}
use Rattle.rt_forms.proofs.Ends.{left_ended}
use Rattle.rt_base.proofs.Scanning.{made_inside}
use Rattle.rt_forms.proofs.Whole.{reads_text, whole_is}
use Rattle.def_text.specs.Faults.{def_faults}
use Rattle.def_text.specs.Texts.{a_def, def_form}
use Rattle.def_text.proofs.Grammar.{lawful_def}
use Rattle.def_text.proofs.Closes.{few_cut}
use Rattle.def_text.proofs.NetCloses.{result_closes}
use Rattle.def_text.proofs.NetNames.{result_named}
use Rattle.def_text.proofs.read.read_def_tokens.Goals as goal

pub new-words-requires : goal.new-words-requires
new-words-requires c = made_inside c.args.text.now c.args.tokens.now c.requires.tokens.made

pub overflow_cast-tokens : goal.overflow_cast-tokens
overflow_cast-tokens c = omega (arith, few_cut c.args.text.now c.args.tokens.now c.requires.tokens, c.requires.text)

pub whole_def-requires-clause-few : goal.whole_def-requires-clause-few
whole_def-requires-clause-few c = omega (arith, few_cut c.args.text.now c.args.tokens.now c.requires.tokens, c.requires.text, c.new-words.ensures.count)

pub whole_def-requires-clause-total : goal.whole_def-requires-clause-total
whole_def-requires-clause-total c = ap left_of c.new-words.ensures.words ∙ left_ended c.args.text.now c.args.tokens.now (last_line c.args.tokens.now)

pub returns-clause-reads : goal.returns-clause-reads
returns-clause-reads c = reads_text def_faults (λ x. x) def_form lawful_def (whole_is a_def) c.args.text.now c.args.tokens.now _ c.whole_def.result (rw c.new-words.ensures.words at c.whole_def.ensures.reads)

pub returns-clause-fits : goal.returns-clause-fits
returns-clause-fits c = result_named c.args.text.now c.args.tokens.now c.whole_def.result c.requires.tokens (reads_text def_faults (λ x. x) def_form lawful_def (whole_is a_def) c.args.text.now c.args.tokens.now _ c.whole_def.result (rw c.new-words.ensures.words at c.whole_def.ensures.reads)).found c.whole_def.ensures.sound

pub returns-clause-closes : goal.returns-clause-closes
returns-clause-closes c = result_closes c.args.text.now c.args.tokens.now c.whole_def.result c.requires.tokens (reads_text def_faults (λ x. x) def_form lawful_def (whole_is a_def) c.args.text.now c.args.tokens.now _ c.whole_def.result (rw c.new-words.ensures.words at c.whole_def.ensures.reads)).found
