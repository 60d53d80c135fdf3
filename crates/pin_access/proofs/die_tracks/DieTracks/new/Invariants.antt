use Rattle.std.proofs.Common.{◌≡◌, ◌≤◌, ℕ, length, slice_get, Some, All}
use Rattle.track_graph.specs.Levels.{levels}
use Rattle.pin_access.specs.declared.die_tracks.DieLevel.{DieLevel}
use Rattle.pin_access.specs.DieTracks.{IsDieLevel, IsDieLevelOf}
use Rattle.pin_access.specs.EntryOrder.{system_of}
use Rattle.pin_access.proofs.die_tracks.DieTracks.new.Given as goal

abbrev pub invariant-loop-level : goal.invariant-loop-level
invariant-loop-level l =
    (length l.levels ≡ l.level)
    × (l.level ≤ length (levels l.tech))
    × All IsDieLevel l.levels
    × ((k : ℕ) (d : DieLevel) → slice_get l.levels k ≡ Some d → IsDieLevelOf (system_of l.tech l.tracks l.die) k d)
