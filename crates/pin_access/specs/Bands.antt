-- Rectangles as the tracks of a level see them, and what is near them on a line.
use Rattle.std.specs.Prelude.{ℕ, ◌+◌, ◌≤◌, ◌^◌, ℤ, ◌≤ℤ◌, ◌-ℤ◌, Bool, if◌then◌else◌, List, Contains, unsigned_abs, Any}
use Rattle.rt_base.specs.Sides.{Sides}
use Rattle.rt_base.specs.Ranges.{IsWithin}
use Rattle.rt_base.specs.declared.geometry.Span.{Span}
use Rattle.rt_base.specs.Geometry.{nearest}
use Rattle.pin_access.specs.declared.bands.Band.{Band}

-- a number lies in a range
abbrev pub IsIn : ℤ → Span → Type 0
IsIn z s = (s.lo ≤ℤ z) × (z ≤ℤ s.hi)

-- how far a number is from a range
abbrev pub beyond : Span → ℤ → ℕ
beyond s z = unsigned_abs (nearest s.lo s.hi z -ℤ z)

-- a rectangle across the tracks of a level and along them, where h says whether they run in x
abbrev pub band_of : Bool → Sides → Band
band_of h s = record {
  across = if h then record { lo = s.yl; hi = s.yh } else record { lo = s.xl; hi = s.xh };
  along = if h then record { lo = s.xl; hi = s.xh } else record { lo = s.yl; hi = s.yh };
}

abbrev pub IsSpan : Span → Type 0
IsSpan s = (s.lo ≤ℤ s.hi) × IsWithin (2 ^ 61) s.lo × IsWithin (2 ^ 61) s.hi

pub record IsBand (b : Band) : Type 0 where
  pub across : IsSpan b.across
  pub along : IsSpan b.along

-- a position of a line is near a band
abbrev pub IsNearBand : ℕ → ℤ → ℤ → Band → Type 0
IsNearBand reach line z b = beyond b.across line + beyond b.along z ≤ reach

-- a line and a position of these, near one of these bands
pub record IsNearBands (reach : ℕ) (bands : List Band) (lines positions : List ℤ) (p : ℤ × ℤ) : Type 0 where
  pub line : Contains lines p.0
  pub position : Contains positions p.1
  pub near : Any (IsNearBand reach p.0 p.1) bands
