use Rattle.std.proofs.Common.{◌≡◌, ◌<◌, ℕ, Some, slice_get, Contains}
use Rattle.label_arena.specs.declared.place.Bridge.{Bridge}
use Rattle.label_arena.specs.Marks.{IsBridgeEnd}
use Rattle.interval_label.specs.Known.{Marks}
use Rattle.interval_label.proofs.marking.Marking.add_bridges.Given as goal

abbrev pub invariant-bridges : goal.invariant-bridges
invariant-bridges l = record {
  marks : Marks l.arena.graph (IsBridgeEnd l.arena.graph) l.fn.self l.self;
  all : (j : ℕ) (b : Bridge) → j < l.k → slice_get l.arena.graph.bridges j ≡ Some b → Contains l.self.list.items b.a × Contains l.self.list.items b.b;
}
