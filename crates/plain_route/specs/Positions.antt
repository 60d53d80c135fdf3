-- The next positions on either side of one.
use Rattle.std.specs.Prelude.{ℤ, Option, Some, None}
use Rattle.std.specs.Int.{int_min, int_max}

-- the lesser of two numbers, as far as they are there
abbrev pub lesser : Option ℤ → Option ℤ → Option ℤ
lesser None b = b
lesser (Some x) None = Some x
lesser (Some x) (Some y) = Some (int_min x y)

-- the greater of two numbers, as far as they are there
abbrev pub greater : Option ℤ → Option ℤ → Option ℤ
greater None b = b
greater (Some x) None = Some x
greater (Some x) (Some y) = Some (int_max x y)
