-- Numbers in order.
use Rattle.std.specs.Prelude.{ℕ, ◌+◌, ◌≤◌, ⊤, List, [], ◌∷◌}

-- numbers from this one up, each less than the next
abbrev pub Ascend : ℕ → List ℕ → Type 0
Ascend least [] = ⊤
Ascend least (x ∷ xs) = (least ≤ x) × Ascend (x + 1) xs
