use Rattle.std.proofs.Common.{ap, arith}
use Rattle.lef_text.specs.Counts.{total_skipped}
use Rattle.lef_text.proofs.Counts.{total_counted}
use Rattle.lef_text.proofs.shapes.layer_rest.Goals as goal

pub returns-then-is-clause-few : goal.returns-then-is-clause-few
returns-then-is-clause-few c = omega (arith, ap total_skipped c.count_at.ensures, total_counted c.args.place c.args.lib.now.skipped, c.in_ok-word.ensures.1, c.in_ok-number.ensures.1, c.in_ok-semicolon.ensures.1)
