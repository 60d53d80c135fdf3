-- Tables: values beside numbers.
use Rattle.std.specs.Prelude.{ℕ, List, Option, nat_eq}
use Rattle.std.specs.Map.{lookup}

-- what a table has beside a number, if anything
abbrev pub entry_of : {T : Type 0} → List (ℕ × T) → ℕ → Option T
entry_of entries n = lookup (nat_eq n) entries
