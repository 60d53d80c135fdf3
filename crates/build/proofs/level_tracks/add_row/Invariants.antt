use Rattle.std.proofs.Common.{◌≡◌, ◌⊎◌, ℕ, ◌+◌, ◌<◌, ℤ, pos, ◌+ℤ◌, ◌*ℤ◌, length, Contains, ◌↔◌}
use Rattle.build.proofs.level_tracks.add_row.Given as goal

abbrev pub invariant-loop-k : goal.invariant-loop-k
invariant-loop-k l =
    ((z : ℤ) → Contains l.lines.items z ↔ (Contains l.initial.lines.items z ⊎ ((k : ℕ) × (k < l.k) × (z ≡ l.row.first +ℤ pos k *ℤ l.row.step))))
    × (length l.lines.items ≡ length l.initial.lines.items + l.k)
