use Rattle.std.proofs.Common.{arith, ap, ◌∙◌}
use Rattle.rt_forms.specs.Lexeme.{last_line}
use Rattle.rt_forms.specs.Reading.{left_of}
use Rattle.rt_forms.proofs.Ends.{left_ended}
use Rattle.rt_base.proofs.Scanning.{made_inside}
use Rattle.def_text.specs.Texts.{units_form}
use Rattle.def_text.proofs.Grammar.{lawful_units}
use Rattle.def_text.proofs.Closes.{few_cut}
use Rattle.def_text.proofs.Readers.{reads_beginning}
use Rattle.def_text.proofs.read.read_units_tokens.Goals as goal

pub new-words-requires : goal.new-words-requires
new-words-requires c = made_inside c.args.text.now c.args.tokens.now c.requires.tokens.made

pub overflow_cast-tokens : goal.overflow_cast-tokens
overflow_cast-tokens c = omega (arith, few_cut c.args.text.now c.args.tokens.now c.requires.tokens, c.requires.text)

pub the_units-requires-clause-few : goal.the_units-requires-clause-few
the_units-requires-clause-few c = omega (arith, few_cut c.args.text.now c.args.tokens.now c.requires.tokens, c.requires.text, c.new-words.ensures.count)

pub the_units-requires-clause-total : goal.the_units-requires-clause-total
the_units-requires-clause-total c = ap left_of c.new-words.ensures.words ∙ left_ended c.args.text.now c.args.tokens.now (last_line c.args.tokens.now)

pub returns : goal.returns
returns c = reads_beginning units_form lawful_units c.args.text.now c.args.tokens.now _ c.the_units.result (rw c.new-words.ensures.words at c.the_units.ensures)
