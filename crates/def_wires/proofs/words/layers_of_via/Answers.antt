use Rattle.std.proofs.Common.{sym}
use Rattle.def_wires.specs.Meaning.{rects_of_via}
use Rattle.def_wires.proofs.Opening.{joined_within}
use Rattle.def_wires.proofs.words.layers_of_via.Goals as goal

pub returns-in-Some-clause-within : goal.returns-in-Some-clause-within
returns-in-Some-clause-within c = rw (sym c.in-Some.ensures) at (joined_within c.args.tech.now (rects_of_via c.args.tech.now c.args.via))
