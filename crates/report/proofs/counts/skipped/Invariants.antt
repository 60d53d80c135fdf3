use Rattle.std.proofs.Common.{◌≡◌, ◌-◌, ◌*◌, ◌^◌, ◌≤◌, ℕ, List, sum_by, take}
use Rattle.report.proofs.counts.skipped.Given as goal

abbrev pub invariant-loop-count : goal.invariant-loop-count
invariant-loop-count l = record {
  sum : l.total ≡ sum_by (λ (c : List ℕ × ℕ). c.1) (take l.count-index l.counts);
  few : l.total ≤ l.count-index * (2 ^ 64 - 1);
}
