use Rattle.std.proofs.Common.{◌<◌, arith}
use Rattle.std.proofs.lemmas.Int.{ints}
use Rattle.rt_base.specs.Tiles.{side_of}
use Rattle.search.proofs.OnTiles.{answers-on}
use Rattle.search.proofs.piece.lies_on.Goals as goal

pub returns : goal.returns
returns c =
    let some : 0 < side_of c.args.grid.now = omega (arith, ints, c.requires) in
    answers-on c.args.grid.now c.args.no c.args.shape.now c.meets.result some (record { wide = c.high-corner.ensures.wide; tall = c.high-corner.ensures.tall }) c.meets.ensures
