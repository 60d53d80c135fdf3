use Rattle.std.proofs.Common.{◌≡◌, ◌<◌, ℕ, Some, slice_get, Contains}
use Rattle.label_arena.specs.declared.place.Place.{Place}
use Rattle.interval_label.specs.Known.{Marks, IsAcross, IsJoinedTo}
use Rattle.interval_label.proofs.marking.Marking.follow.Given as goal

abbrev pub invariant-runs : goal.invariant-runs
invariant-runs l = record {
  marks : Marks l.arena.graph (IsJoinedTo l.arena.graph l.place) l.fn.self l.self;
  all : (j k : ℕ) → j < l.k-index → slice_get l.k-items j ≡ Some k → (v : Place) → IsAcross l.arena.graph k l.place.coord v → Contains l.self.list.items v;
}
