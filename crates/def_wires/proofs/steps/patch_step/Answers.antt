use Rattle.std.proofs.Common.{subst, sym}
use Rattle.def_wires.specs.Sound.{IsOpenPath}
use Rattle.def_wires.proofs.Opening.{patch_sound}
use Rattle.def_wires.proofs.steps.patch_step.Goals as goal

pub returns-clause-sound : goal.returns-clause-sound
returns-clause-sound c = subst (IsOpenPath c.args.tech.now) (sym c.in_ok-add_patch.ensures) (patch_sound c.args.tech.now c.args.path.now c.in_ok-rect.rect c.requires c.in_ok-rect.ensures.small)
