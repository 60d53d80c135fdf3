use Rattle.std.proofs.Common.{All, subst, sym}
use Rattle.std.proofs.lemmas.List.Elements.{All-push}
use Rattle.def_wires.specs.Sound.{HasWidth}
use Rattle.fixed_wires.proofs.tests.add_layer.Goals as goal

pub returns-clause-widths : goal.returns-clause-widths
returns-clause-widths c = subst (All HasWidth) (sym c.in_ok-push.ensures.ok) (All-push HasWidth c.args.layers.now c.in_ok-layer.layer c.requires c.in_ok-layer.ensures)
