-- What the command answers by itself.
use Rattle.std.specs.Prelude.{ℕ, List, [], ◌∷◌, Bool, true, false, ◌||◌, bytes_eq, codes, String, string_bytes, Option, Some, None}
use Rattle.std.specs.Global.{Global}

-- the one word `--help` or `--version`
abbrev pub asks_about_itself : List (String Global) → Bool
asks_about_itself [] = false
asks_about_itself (word ∷ []) = bytes_eq (string_bytes word) (codes "--help") || bytes_eq (string_bytes word) (codes "--version")
asks_about_itself (word ∷ next ∷ words) = false
