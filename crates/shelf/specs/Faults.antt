-- Counts of faults. A fault is counted, so none comes where the count stands at the end of its type.
use Rattle.std.specs.Prelude.{ℕ, ◌-◌, ◌^◌, ◌<◌}

-- the largest count
abbrev pub count_end : ℕ
count_end = 2 ^ 64 - 1

-- a fault raised the count between two moments
abbrev pub HasRisen : ℕ → ℕ → Type 0
HasRisen before after = before < after
