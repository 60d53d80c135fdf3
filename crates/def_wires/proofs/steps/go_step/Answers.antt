use Rattle.std.proofs.Common.{subst, sym}
use Rattle.def_wires.specs.Sound.{IsOpenPath}
use Rattle.def_wires.proofs.Opening.{go_sound}
use Rattle.def_wires.proofs.steps.go_step.Goals as goal

pub returns-clause-sound : goal.returns-clause-sound
returns-clause-sound c = subst (IsOpenPath c.args.tech.now) (sym c.in_ok-add_go.ensures) (go_sound c.args.tech.now c.args.path.now c.in_ok-corner.corner c.requires c.in_ok-corner.ensures.sound)
