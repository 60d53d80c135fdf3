use Rattle.std.proofs.Common.{arith}
use Rattle.pin_access.proofs.Banding.{near_lines_do}
use Rattle.pin_access.proofs.bands.count_near_bands.Goals as goal

pub count_on_lines-requires-clause-line_count : goal.count_on_lines-requires-clause-line_count
count_on_lines-requires-clause-line_count c = omega (arith, c.lines_near-near.ensures.count, c.requires.line_count)

pub returns-clause-count : goal.returns-clause-count
returns-clause-count c = near_lines_do c.args.reach c.args.bands.now c.lines_near-near.result.now c.args.lines.now c.args.positions.now c.in_ok-count.count c.lines_near-near.ensures.those c.lines_near-near.ensures.near c.in_ok-count.ensures.count

pub returns-clause-most : goal.returns-clause-most
returns-clause-most c = omega (arith, c.lines_near-near.ensures.count, c.requires.line_count, c.in_ok-count.ensures.most)
