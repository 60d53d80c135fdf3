-- Spans that are collected.
use Rattle.std.specs.Prelude.{◌≡◌, ◌⊎◌, ℤ, pos, ◌^◌, ◌≤ℤ◌, ◌<ℤ◌, Bool, true, List, All, ◌↔◌}
use Rattle.rt_base.specs.declared.geometry.Span.{Span}
use Rattle.regions.specs.Spans.{InSpans}

-- no span is empty or ends far out
abbrev pub AreFit : List Span → Type 0
AreFit spans = All (λ (s : Span). (s.lo ≤ℤ s.hi) × (s.hi <ℤ pos (2 ^ 62))) spans

-- these spans have the numbers of those, and the ones that pass a test
pub record Adds (test : ℤ → Bool) (old new : List Span) : Type 0 where
  pub fit : AreFit old → AreFit new
  pub exact : (z : ℤ) → InSpans new z ↔ (InSpans old z ⊎ (test z ≡ true))
