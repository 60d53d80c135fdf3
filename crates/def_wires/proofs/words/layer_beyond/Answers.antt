use Rattle.std.proofs.Common.{sym, length}
use Rattle.def_wires.proofs.Opening.{other_within}
use Rattle.def_wires.proofs.words.layer_beyond.Goals as goal

pub returns-in-Some-clause-inside : goal.returns-in-Some-clause-inside
returns-in-Some-clause-inside c = rw (sym c.in-Some.ensures) at (other_within (length c.args.tech.now.layers) c.in_ok-joined.joined c.args.layer c.in_ok-joined.ensures.within)
