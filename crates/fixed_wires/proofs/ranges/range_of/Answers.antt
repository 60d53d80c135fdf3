use Rattle.fixed_wires.proofs.Inside.{range_inside}
use Rattle.fixed_wires.proofs.ranges.range_of.Goals as goal

pub returns-clause-inside : goal.returns-clause-inside
returns-clause-inside c = λ n h. range_inside n c.args.range.0 c.args.range.1 c.args.tokens.now h
