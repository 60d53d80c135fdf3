-- What a sink tells of its text, and what its calls make of that.
use Rattle.std.specs.Prelude.{◌≡◌, ℕ, List, ◌++◌, take, Option, option_map}

-- the text with bytes at its end. Nothing is told where nothing was told
abbrev pub with_more : Option (List ℕ) → List ℕ → Option (List ℕ)
with_more text bytes = option_map (λ said. said ++ bytes) text

-- some first bytes were said
abbrev pub IsPartlySaid : Option (List ℕ) → Option (List ℕ) → List ℕ → Type 0
IsPartlySaid old new bytes = (count : ℕ) × (new ≡ with_more old (take count bytes))
