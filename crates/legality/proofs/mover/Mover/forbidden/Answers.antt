use Rattle.std.proofs.Common.{◌≡◌, ◌↔◌, ◌^◌, ◌+◌, ◌≤◌, ℕ, pos, ◌+ℤ◌, ◌-ℤ◌, ◌≤ℤ◌, true, w64, ap, subst, lit≤, arith}
use Rattle.std.proofs.lemmas.Int.{ints, to_z-of_z}
use Rattle.rt_base.specs.Conflict.{is_near_of}
use Rattle.rt_base.specs.declared.geometry.Span.{Span}
use Rattle.rt_base.proofs.Ranges.{within-weaker}
use Rattle.legality.specs.Gaps.{extent_of}
use Rattle.legality.proofs.NearLemmas.{extent_within, low_fits, high_fits, hi_small, parts_are, span_of_gaps}
use Rattle.legality.proofs.mover.Mover.forbidden.Goals as goal

pub overflow_sub-result-2 : goal.overflow_sub-result-2
overflow_sub-result-2 c =
    let b = c.args.self.now.line.in_x in
    let its = extent_within b (2 ^ 61) c.args.other.now c.requires.other in
    let mine = extent_within b (2 ^ 60 + 2 ^ 30) c.args.self.now.rect c.requires.mover.rect in
    let wide = within-weaker (2 ^ 60 + 2 ^ 30) (2 ^ 61) (extent_of b c.args.self.now.rect).hi (lit≤ tt) mine.1 in
    let e = parts_are c.extent-its.result.lo (extent_of b c.args.other.now).lo c.extent-mine.result.hi (extent_of b c.args.self.now.rect).hi c.in_ok-reach.field-0 (ap (λ (s : Span). s.lo) c.extent-its.ensures.value) (ap (λ (s : Span). s.hi) c.extent-mine.ensures.value) its.0 wide c.in_ok-reach.ensures.small in
    rw (e.0, e.1) (low_fits (extent_of b c.args.other.now).lo (extent_of b c.args.self.now.rect).hi c.in_ok-reach.field-0 its.0 wide c.in_ok-reach.ensures.small)

pub overflow_add-result : goal.overflow_add-result
overflow_add-result c =
    let b = c.args.self.now.line.in_x in
    let its = extent_within b (2 ^ 61) c.args.other.now c.requires.other in
    let mine = extent_within b (2 ^ 60 + 2 ^ 30) c.args.self.now.rect c.requires.mover.rect in
    let wide = within-weaker (2 ^ 60 + 2 ^ 30) (2 ^ 61) (extent_of b c.args.self.now.rect).lo (lit≤ tt) mine.0 in
    let e = parts_are c.extent-its.result.hi (extent_of b c.args.other.now).hi c.extent-mine.result.lo (extent_of b c.args.self.now.rect).lo c.in_ok-reach.field-0 (ap (λ (s : Span). s.hi) c.extent-its.ensures.value) (ap (λ (s : Span). s.lo) c.extent-mine.ensures.value) its.1 wide c.in_ok-reach.ensures.small in
    rw (e.0, e.1) (high_fits (extent_of b c.args.other.now).hi (extent_of b c.args.self.now.rect).lo c.in_ok-reach.field-0 its.1 wide c.in_ok-reach.ensures.small)

pub returns-clause-some : goal.returns-clause-some
returns-clause-some c =
    let m = c.args.self.now in
    let b = m.line.in_x in
    let r = c.in_ok-reach.field-0 in
    let small = c.in_ok-reach.ensures.small in
    let its = extent_within b (2 ^ 61) c.args.other.now c.requires.other in
    let mine = extent_within b (2 ^ 60 + 2 ^ 30) m.rect c.requires.mover.rect in
    let wide_lo = within-weaker (2 ^ 60 + 2 ^ 30) (2 ^ 61) (extent_of b m.rect).lo (lit≤ tt) mine.0 in
    let wide_hi = within-weaker (2 ^ 60 + 2 ^ 30) (2 ^ 61) (extent_of b m.rect).hi (lit≤ tt) mine.1 in
    let el = parts_are c.extent-its.result.lo (extent_of b c.args.other.now).lo c.extent-mine.result.hi (extent_of b m.rect).hi r (ap (λ (s : Span). s.lo) c.extent-its.ensures.value) (ap (λ (s : Span). s.hi) c.extent-mine.ensures.value) its.0 wide_hi small in
    let eh = parts_are c.extent-its.result.hi (extent_of b c.args.other.now).hi c.extent-mine.result.lo (extent_of b m.rect).lo r (ap (λ (s : Span). s.hi) c.extent-its.ensures.value) (ap (λ (s : Span). s.lo) c.extent-mine.ensures.value) its.1 wide_lo small in
    let lo : _ ≡ ((extent_of b c.args.other.now).lo -ℤ (extent_of b m.rect).hi) -ℤ pos r = to_z-of_z w64 _ (low_fits (extent_of b c.args.other.now).lo (extent_of b m.rect).hi r its.0 wide_hi small) in
    let hi : _ ≡ ((extent_of b c.args.other.now).hi -ℤ (extent_of b m.rect).lo) +ℤ pos r = to_z-of_z w64 _ (high_fits (extent_of b c.args.other.now).hi (extent_of b m.rect).lo r its.1 wide_lo small) in
    let full_mine : (extent_of b m.rect).lo ≤ℤ (extent_of b m.rect).hi = subst (λ (s : Span). s.lo ≤ℤ s.hi) c.extent-mine.ensures.value c.extent-mine.ensures.full in
    let full_its : (extent_of b c.args.other.now).lo ≤ℤ (extent_of b c.args.other.now).hi = subst (λ (s : Span). s.lo ≤ℤ s.hi) c.extent-its.ensures.value c.extent-its.ensures.full in
    rw (el.0, el.1, eh.0)
    (span_of_gaps m c.args.other.now r _
    (subst (λ (a : ℕ). (along : ℕ) → (along ≤ r) ↔ (is_near_of along a m.spacing ≡ true)) c.gap_across.ensures c.in_ok-reach.ensures.some)
    lo hi (rw (lo, hi) (omega (arith, ints, full_mine, full_its))))

pub returns-clause-small : goal.returns-clause-small
returns-clause-small c =
    let m = c.args.self.now in
    let b = m.line.in_x in
    let r = c.in_ok-reach.field-0 in
    let small = c.in_ok-reach.ensures.small in
    let its = extent_within b (2 ^ 61) c.args.other.now c.requires.other in
    let mine = extent_within b (2 ^ 60 + 2 ^ 30) m.rect c.requires.mover.rect in
    let wide_lo = within-weaker (2 ^ 60 + 2 ^ 30) (2 ^ 61) (extent_of b m.rect).lo (lit≤ tt) mine.0 in
    let eh = parts_are c.extent-its.result.hi (extent_of b c.args.other.now).hi c.extent-mine.result.lo (extent_of b m.rect).lo r (ap (λ (s : Span). s.hi) c.extent-its.ensures.value) (ap (λ (s : Span). s.lo) c.extent-mine.ensures.value) its.1 wide_lo small in
    rw (eh.0, eh.1, to_z-of_z w64 _ (high_fits (extent_of b c.args.other.now).hi (extent_of b m.rect).lo r its.1 wide_lo small)) (hi_small (extent_of b c.args.other.now).hi (extent_of b m.rect).lo r its.1 mine.0 small)
