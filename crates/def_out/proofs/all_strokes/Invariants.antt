use Rattle.std.proofs.Common.{◌≡◌, take}
use Rattle.std.specs.Prelude.{flat_map}
use Rattle.track_graph.specs.Strokes.{walk_strokes}
use Rattle.def_out.proofs.all_strokes.Given as goal

abbrev pub invariant-loop-walk : goal.invariant-loop-walk
invariant-loop-walk l = l.all.items ≡ flat_map (walk_strokes l.design l.net) (take l.walk-index l.walks)
