use Rattle.std.proofs.Common.{subst, sym}
use Rattle.def_wires.specs.Sound.{IsOpenPath}
use Rattle.def_wires.proofs.Opening.{via_sound}
use Rattle.def_wires.proofs.steps.via_step.Goals as goal

pub returns-clause-sound : goal.returns-clause-sound
returns-clause-sound c = subst (IsOpenPath c.args.tech.now) (sym c.in_ok-add_via.ensures) (via_sound c.args.tech.now c.args.path.now c.in_ok-via.via c.in_ok-orient.orient c.in_ok-other.other c.in_ok-array.array c.requires.path c.in_ok-via.ensures.inside c.in_ok-other.ensures.inside c.in_ok-array.ensures.sound)
