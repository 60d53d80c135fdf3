use Rattle.std.proofs.Common.{ℕ, ◌<◌, ◌≤◌, ◌-◌, ◌<ℤ◌, ◌≤ℤ◌, length}
use Rattle.label_arena.specs.Rows.{coord_at}
use Rattle.label_arena.proofs.row.count_up_to.Given as goal

abbrev pub invariant-halves : goal.invariant-halves
invariant-halves l = record {
  ordered : l.low ≤ l.high;
  inside : l.high ≤ length l.row;
  before : (i : ℕ) → i < l.low → coord_at l.labels l.row i ≤ℤ l.place.coord;
  after : (i : ℕ) → l.high ≤ i → i < length l.row → l.place.coord <ℤ coord_at l.labels l.row i;
}

abbrev pub decreases-halves : goal.decreases-halves
decreases-halves l = l.high - l.low
