use Rattle.std.proofs.Common.{arith}
use Rattle.rt_base.proofs.Scanning.{made_inside}
use Rattle.rt_forms.proofs.Whole.{reads_text}
use Rattle.lef_text.specs.Faults.{lef_faults}
use Rattle.lef_text.specs.Lef.{lef}
use Rattle.lef_text.proofs.Grammar.{lawful_lef, lef_is}
use Rattle.lef_text.proofs.SoundCounts.{few_tokens}
use Rattle.lef_text.proofs.SoundVias.{result_is_lef}
use Rattle.lef_text.proofs.read.read_lef_tokens.Goals as goal

pub new-words-requires : goal.new-words-requires
new-words-requires c = made_inside c.args.text.now c.args.tokens.now c.requires.tokens.made

pub lef-requires : goal.lef-requires
lef-requires c = omega (arith, few_tokens c.args.text.now c.args.tokens.now c.requires.tokens, c.requires.text, c.new-words.ensures.count)

pub returns-clause-text : goal.returns-clause-text
returns-clause-text c = reads_text lef_faults (λ x. x) (lef c.args.units) (lawful_lef c.args.units) (lef_is c.args.units) c.args.text.now c.args.tokens.now _ c.lef.result (rw c.new-words.ensures.words at c.lef.ensures)

pub returns-clause-fits : goal.returns-clause-fits
returns-clause-fits c = result_is_lef c.args.units c.args.text.now c.args.tokens.now c.lef.result c.requires.text c.requires.tokens (reads_text lef_faults (λ x. x) (lef c.args.units) (lawful_lef c.args.units) (lef_is c.args.units) c.args.text.now c.args.tokens.now _ c.lef.result (rw c.new-words.ensures.words at c.lef.ensures)).found
