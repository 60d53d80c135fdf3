use Rattle.std.proofs.Common.{arith}
use Rattle.regions.proofs.Bounds.{reach_most, spacing_most}
use Rattle.regions.proofs.margin.halo.Goals as goal

pub overflow_add-result : goal.overflow_add-result
overflow_add-result c = omega (arith, reach_most c.args.design.now c.reach.result c.requires c.reach.ensures, spacing_most c.args.design.now c.largest_spacing.result c.requires c.largest_spacing.ensures)
