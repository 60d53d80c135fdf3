use Rattle.std.proofs.Common.{take, pos}
use Rattle.regions.proofs.TileLemmas.{AreRunsOf}
use Rattle.regions.proofs.tiles.met.Given as goal

abbrev pub invariant-loop-guide_box : goal.invariant-loop-guide_box
invariant-loop-guide_box l = AreRunsOf l.grid (pos l.fn.halo) (take l.guide_box-index l.boxes) l.runs.items
