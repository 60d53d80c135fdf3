use Rattle.std.specs.Option.{option_copied}
use Rattle.build.specs.Inputs.{input_of}
use Rattle.build.proofs.Assembling.{only_design, only_refusal}
use Rattle.build.proofs.GuideLemmas.{guides_are}
use Rattle.build.proofs.design.build.Goals as goal

pub looked_up-requires-clause-input : goal.looked_up-requires-clause-input
looked_up-requires-clause-input c = record { is_lef = c.requires.lef; is_def = c.requires.def; inside = c.requires.tokens; ranges = c.requires.ranges; are_guides = guides_are (option_copied c.args.guides) c.requires.guides }

pub returns-clause-only : goal.returns-clause-only
returns-clause-only c = only_design (input_of c.args.lef.now c.args.def.now c.args.text.now c.args.tokens.now (option_copied c.args.guides)) c.args.options c.looked_up.result c.looked_up.ensures.refusal

pub returns-clause-refuses : goal.returns-clause-refuses
returns-clause-refuses c = only_refusal (input_of c.args.lef.now c.args.def.now c.args.text.now c.args.tokens.now (option_copied c.args.guides)) c.args.options c.looked_up.result c.looked_up.ensures.design c.looked_up.ensures.refusal
