use Rattle.std.proofs.Common.{◌≡◌, ◌<◌, ◌-◌, ℕ, Some, slice_get, Contains}
use Rattle.label_arena.specs.declared.place.Place.{Place}
use Rattle.label_arena.specs.Marks.{IsMark, IsMarkBy}
use Rattle.interval_label.specs.Known.{IsMarking, IsJoinedTo}
use Rattle.interval_label.specs.State.{most_places}
use Rattle.interval_label.proofs.known.known_marks.Given as goal

abbrev pub invariant-marks : goal.invariant-marks
invariant-marks l = record {
  marking : IsMarking l.arena.graph l.marks.list.items l.marks.rows;
  are : (v : Place) → Contains l.marks.list.items v → IsMark l.arena.graph l.sources l.targets v;
  first : (v : Place) → IsMarkBy l.arena.graph l.sources l.targets 0 v → Contains l.marks.list.items v;
  closed : (j : ℕ) (u v : Place) → j < l.next → slice_get l.marks.list.items j ≡ Some u → IsJoinedTo l.arena.graph u v → Contains l.marks.list.items v;
}

abbrev pub decreases-marks : goal.decreases-marks
decreases-marks l = most_places l.arena.graph - l.next
