use Rattle.build.proofs.Assembling.{grid_is}
use Rattle.build.proofs.design.grid.Goals as goal

pub returns : goal.returns
returns c = grid_is c.args.def.now c.args.options c.requires.least c.requires.most
