use Rattle.std.proofs.Common.{refl, subst, sym, arith}
use Rattle.search.proofs.Numbered.{IsNumberedTo, numbered-more}
use Rattle.search.proofs.whole.number_tiles.Goals as goal

pub loop-tile-preserved : goal.loop-tile-preserved
loop-tile-preserved c = subst (IsNumberedTo c.args.tiles.items c.pop.new.self.items) (sym c.in_ok-push.ensures.ok) (numbered-more c.args.tiles.items c.loop-tile.tiles.items c.pop.new.self.items c.in-Some.tile c.loop-tile.pieces _ c.in-Some.ensures.items (omega (arith, c.len-no.ensures)) refl c.loop-tile.invariant)
