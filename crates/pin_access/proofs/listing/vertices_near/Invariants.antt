use Rattle.std.proofs.Common.{◌⊎◌, ◌↔◌, take, drop, All, Any, Contains}
use Rattle.rt_base.specs.declared.walk.Vertex.{Vertex}
use Rattle.track_graph.specs.Metal.{Metal}
use Rattle.pin_access.specs.EntryOrder.{system_of}
use Rattle.pin_access.specs.Nearby.{IsNearMetal, IsRect}
use Rattle.pin_access.proofs.listing.vertices_near.Given as goal

abbrev pub invariant-loop-metal : goal.invariant-loop-metal
invariant-loop-metal l = record {
  exact : (v : Vertex) → (Contains l.vertices.items v ⊎ Any (λ (m : Metal). IsNearMetal (system_of l.tech l.tracks l.die) l.steps m v) (drop l.metal-index l.rects)) ↔ Any (λ (m : Metal). IsNearMetal (system_of l.tech l.tracks l.die) l.steps m v) l.rects;
  rects : All (λ (m : Metal). IsRect m.1) (take l.metal-index l.rects);
}
