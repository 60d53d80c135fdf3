use Rattle.std.proofs.Common.{◌≡◌, ◌++◌, drop}
use Rattle.track_graph.specs.Strokes.{begun_at, path_strokes}
use Rattle.track_graph.proofs.stroke_list.push_path.Given as goal

abbrev pub invariant-loop-i : goal.invariant-loop-i
invariant-loop-i l = l.strokes ++ begun_at l.from (path_strokes l.at (drop l.i l.edges)) ≡ l.initial.strokes ++ path_strokes l.initial.at l.edges
