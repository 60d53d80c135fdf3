use Rattle.std.proofs.Common.{arith}
use Rattle.lef_text.proofs.Counts.{few_layer}
use Rattle.lef_text.proofs.layers.used_layer.Goals as goal

pub returns-clause-few : goal.returns-clause-few
returns-clause-few c = few_layer c.add_layer.result c.args.lib.now c.add_layer.new.lib c.layer_lines.new.lines c.args.words.now c.layer_lines.new.words c.add_layer.ensures.ok (omega (arith, c.in_ok-layer_lines.ensures.few))
