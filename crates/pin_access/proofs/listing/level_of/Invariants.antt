use Rattle.std.proofs.Common.{◌≡◌, ℕ, ◌<◌, length}
use Rattle.track_graph.specs.Levels.{levels, layer_no}
use Rattle.pin_access.proofs.listing.level_of.Given as goal

abbrev pub invariant-loop-level : goal.invariant-loop-level
invariant-loop-level l = (k : ℕ) → k < l.level → k < length (levels l.tech) → layer_no l.tech k ≡ l.layer.0 → ⊥
