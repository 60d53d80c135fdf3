use Rattle.std.proofs.Common.{ap, arith}
use Rattle.lef_text.specs.Counts.{total_skipped}
use Rattle.lef_text.proofs.Counts.{total_push}
use Rattle.lef_text.proofs.layers.dropped_layer.Goals as goal

pub returns-clause-few : goal.returns-clause-few
returns-clause-few c = omega (arith, ap total_skipped c.in_ok-push-2.ensures.ok, total_push c.args.lib.now.skipped c.in_ok-new-2.field-0 0, c.in_ok-dropped_lines.ensures.1)
