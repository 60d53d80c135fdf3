-- Spans of whole numbers.
use Rattle.std.specs.Prelude.{ℤ, pos, ◌+ℤ◌, ◌≤ℤ◌, ◌<ℤ◌, List, All, AllPairs, Any, ◌↔◌}
use Rattle.std.specs.Int.{int_max}
use Rattle.rt_base.specs.declared.geometry.Span.{Span}

abbrev pub InSpan : Span → ℤ → Type 0
InSpan s z = (s.lo ≤ℤ z) × (z ≤ℤ s.hi)

-- a number lies in one of these spans
abbrev pub InSpans : List Span → ℤ → Type 0
InSpans spans z = Any (λ (s : Span). InSpan s z) spans

-- no span is empty
abbrev pub AreFull : List Span → Type 0
AreFull spans = All (λ (s : Span). s.lo ≤ℤ s.hi) spans

-- two spans in one, where the second begins no lower and no number lies between them
abbrev pub both : Span → Span → Span
both s t = record { lo = s.lo; hi = int_max s.hi t.hi }

-- ascending, with at least one number between each two
abbrev pub AreApart : List Span → Type 0
AreApart spans = AllPairs (λ (s t : Span). (s.hi +ℤ pos 1) <ℤ t.lo) spans

-- the maximal spans of the numbers of which something holds, ascending
pub record AreSpansOf (IsIn : ℤ → Type 0) (spans : List Span) : Type 0 where
  pub full : AreFull spans
  pub apart : AreApart spans
  pub exact : (z : ℤ) → InSpans spans z ↔ IsIn z
