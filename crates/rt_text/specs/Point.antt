-- How a point is written: LEF/DEF 5.8 Language Reference, "Regular Wiring Statement".
use Rattle.std.specs.Prelude.{ℕ, ℤ, List, ◌++◌, codes}
use Rattle.std.specs.Fmt.{signed_decimal}

-- `( x y )`, in plain decimal with single spaces
abbrev pub point_text : ℤ → ℤ → List ℕ
point_text x y = codes "( " ++ signed_decimal x ++ codes " " ++ signed_decimal y ++ codes " )"
