use Rattle.std.proofs.Common.{◌≡◌, ◌++◌, map, take}
use Rattle.track_graph.specs.Metal.{Metal, shapes_of}
use Rattle.rt_base.specs.Geometry.{moved}
use Rattle.track_graph.proofs.shapes.push_via.Given as goal

abbrev pub invariant-loop-layer : goal.invariant-loop-layer
invariant-loop-layer l = l.shapes ≡ l.initial.shapes ++ shapes_of l.net (map (λ (r : Metal). (r.0, moved l.p r.1)) (take l.layer-index l.rects))
