-- Numbers in range.
use Rattle.std.specs.Prelude.{◌≡◌, ℕ, ◌≤◌, ◌^◌, ◌%◌, ℤ, pos, ◌≤ℤ◌, unsigned_abs}
use Rattle.rt_base.specs.Sides.{Sides}
use Rattle.rt_base.specs.declared.geometry.Point.{Point}

-- at most this far from 0
abbrev pub IsWithin : ℕ → ℤ → Type 0
IsWithin most z = unsigned_abs z ≤ most

abbrev pub IsPointWithin : ℕ → Point → Type 0
IsPointWithin most p = IsWithin most p.x × IsWithin most p.y

abbrev pub AreSidesWithin : ℕ → Sides → Type 0
AreSidesWithin most s = IsWithin most s.xl × IsWithin most s.yl × IsWithin most s.xh × IsWithin most s.yh

-- even and at least 2
abbrev pub IsWidth : ℤ → Type 0
IsWidth w = (pos 2 ≤ℤ w) × (w ≤ℤ pos (2 ^ 32)) × (unsigned_abs w % 2 ≡ 0)
