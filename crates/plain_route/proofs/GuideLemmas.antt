-- Points that a box holds, and segments that boxes cover.
use Rattle.std.proofs.Common.{◌≡◌, ℕ, ◌<◌, zero, suc, ℤ, pos, negsuc, ◌+ℤ◌, ◌≤ℤ◌, ◌<ℤ◌, Contains, refl, sym, subst, ap, ◌∙◌, arith}
use Rattle.std.specs.Int.{int_gap}
use Rattle.std.proofs.lemmas.Int.{ints, by_lt_z}
use Rattle.rt_base.specs.Sides.{Sides}
use Rattle.rt_base.specs.Geometry.{Holds, low_of}
use Rattle.rt_base.specs.declared.geometry.Point.{Point}
use Rattle.track_graph.specs.Guide.{Guide, InGuide}
use Rattle.plain_route.specs.Ground.{Reaches, CoversAll}

pub between : (a b c : ℤ) → a ≤ℤ b → b ≤ℤ c → a ≤ℤ c
between a b c h k = omega (arith, ints)

pub same_between : (a b z : ℤ) → a ≡ b → a ≤ℤ z → z ≤ℤ b → z ≡ a
same_between a b z e h k = omega (arith, ints)

before_next : (z b : ℤ) → z <ℤ (b +ℤ pos 1) → z ≤ℤ b
before_next z b h = omega (arith, ints)

-- a box that holds a point has the points of its row up to the box's right side
row_in_box : (guide : Guide) (level : ℕ) (b : Sides) (at r : Point) → Holds b at → Contains guide (level, b) → at.x ≤ℤ r.x → r.x ≤ℤ b.xh → r.y ≡ at.y → InGuide guide level r
row_in_box guide level b at r h c from to same =
    (c.0, (level, b), c.1, c.2, (refl, record { left = between b.xl at.x r.x h.left from; right = to; low = subst (λ (y : ℤ). b.yl ≤ℤ y) (sym same) h.low; high = subst (λ (y : ℤ). y ≤ℤ b.yh) (sym same) h.high }))

column_in_box : (guide : Guide) (level : ℕ) (b : Sides) (at r : Point) → Holds b at → Contains guide (level, b) → at.y ≤ℤ r.y → r.y ≤ℤ b.yh → r.x ≡ at.x → InGuide guide level r
column_in_box guide level b at r h c from to same =
    (c.0, (level, b), c.1, c.2, (refl, record { left = subst (λ (x : ℤ). b.xl ≤ℤ x) (sym same) h.left; right = subst (λ (x : ℤ). x ≤ℤ b.xh) (sym same) h.right; low = between b.yl at.y r.y h.low from; high = to }))

-- the points of a row before this x are in the guide
abbrev pub RowBefore : Guide → ℕ → Sides → ℤ → Type 0
RowBefore guide level s z = (x : ℤ) → s.xl ≤ℤ x → x <ℤ z → InGuide guide level (record { x = x; y = s.yl })

abbrev pub ColumnBefore : Guide → ℕ → Sides → ℤ → Type 0
ColumnBefore guide level s z = (y : ℤ) → s.yl ≤ℤ y → y <ℤ z → InGuide guide level (record { x = s.xl; y = y })

-- the points up to the right side of a box that holds the next one
pub row_more : (guide : Guide) (level : ℕ) (s : Sides) (at far : Point) → at.y ≡ s.yl → RowBefore guide level s at.x → Reaches guide level at far → RowBefore guide level s (far.x +ℤ pos 1)
row_more guide level s at far row before h x low high = by_lt_z x at.x
    (λ lt. before x low lt)
    (λ le. row_in_box guide level h.box at (record { x = x; y = s.yl }) h.holds h.in_guide le (subst (λ (z : ℤ). x ≤ℤ z) (ap (λ (p : Point). p.x) h.corner) (before_next x far.x high)) (sym row))

pub column_more : (guide : Guide) (level : ℕ) (s : Sides) (at far : Point) → at.x ≡ s.xl → ColumnBefore guide level s at.y → Reaches guide level at far → ColumnBefore guide level s (far.y +ℤ pos 1)
column_more guide level s at far column before h y low high = by_lt_z y at.y
    (λ lt. before y low lt)
    (λ le. column_in_box guide level h.box at (record { x = s.xl; y = y }) h.holds h.in_guide le (subst (λ (z : ℤ). y ≤ℤ z) (ap (λ (p : Point). p.y) h.corner) (before_next y far.y high)) (sym column))

reaches_right : (guide : Guide) (level : ℕ) (at far : Point) → Reaches guide level at far → at.x ≤ℤ far.x
reaches_right guide level at far h = subst (λ (z : ℤ). at.x ≤ℤ z) (sym (ap (λ (p : Point). p.x) h.corner)) h.holds.right

reaches_up : (guide : Guide) (level : ℕ) (at far : Point) → Reaches guide level at far → at.y ≤ℤ far.y
reaches_up guide level at far h = subst (λ (z : ℤ). at.y ≤ℤ z) (sym (ap (λ (p : Point). p.y) h.corner)) h.holds.high

nearer : (a b e : ℤ) → a ≤ℤ b → b <ℤ e → int_gap (b +ℤ pos 1) e < int_gap a e
nearer (pos a) (pos b) (pos e) h k = omega (arith, ints)
nearer (pos a) (pos b) (negsuc e) h k = absurd (omega (arith, ints))
nearer (pos a) (negsuc b) e h k = absurd (omega (arith, ints))
nearer (negsuc a) (pos b) (pos e) h k = omega (arith, ints)
nearer (negsuc a) (pos b) (negsuc e) h k = absurd (omega (arith, ints))
nearer (negsuc a) (negsuc zero) (pos e) h k = omega (arith, ints)
nearer (negsuc a) (negsuc zero) (negsuc e) h k = absurd (omega (arith, ints))
nearer (negsuc a) (negsuc (suc b)) (pos e) h k = let s : negsuc (suc b) +ℤ pos 1 ≡ negsuc b = omega (arith, ints) in rw s (omega (arith, ints))
nearer (negsuc a) (negsuc (suc b)) (negsuc e) h k = let s : negsuc (suc b) +ℤ pos 1 ≡ negsuc b = omega (arith, ints) in rw s (omega (arith, ints))

-- what is left of a segment gets shorter
pub row_nearer : (guide : Guide) (level : ℕ) (at far : Point) (e : ℤ) → Reaches guide level at far → far.x <ℤ e → int_gap (far.x +ℤ pos 1) e < int_gap at.x e
row_nearer guide level at far e h k = nearer at.x far.x e (reaches_right guide level at far h) k

pub column_nearer : (guide : Guide) (level : ℕ) (at far : Point) (e : ℤ) → Reaches guide level at far → far.y <ℤ e → int_gap (far.y +ℤ pos 1) e < int_gap at.y e
column_nearer guide level at far e h k = nearer at.y far.y e (reaches_up guide level at far h) k

pub next_within : (z e : ℤ) → z <ℤ e → (z +ℤ pos 1) ≤ℤ e
next_within z e h = omega (arith, ints)

later : (s a b : ℤ) → s ≤ℤ a → a ≤ℤ b → s ≤ℤ (b +ℤ pos 1)
later s a b h k = omega (arith, ints)

pub row_later : (guide : Guide) (level : ℕ) (at far : Point) (s : ℤ) → Reaches guide level at far → s ≤ℤ at.x → s ≤ℤ (far.x +ℤ pos 1)
row_later guide level at far s h k = later s at.x far.x k (reaches_right guide level at far h)

pub column_later : (guide : Guide) (level : ℕ) (at far : Point) (s : ℤ) → Reaches guide level at far → s ≤ℤ at.y → s ≤ℤ (far.y +ℤ pos 1)
column_later guide level at far s h k = later s at.y far.y k (reaches_up guide level at far h)

no_sooner : (x z : ℤ) → x ≤ℤ z → z <ℤ x → ⊥
no_sooner x z h k = omega (arith, ints)

pub row_start : (guide : Guide) (level : ℕ) (s : Sides) (at : Point) → at ≡ low_of s → RowBefore guide level s at.x
row_start guide level s at e x h k = absurd (no_sooner s.xl x h (subst (λ (p : Point). x <ℤ p.x) e k))

pub column_start : (guide : Guide) (level : ℕ) (s : Sides) (at : Point) → at ≡ low_of s → ColumnBefore guide level s at.y
column_start guide level s at e y h k = absurd (no_sooner s.yl y h (subst (λ (p : Point). y <ℤ p.y) e k))

at_most_before : (z a b : ℤ) → z ≤ℤ a → a ≤ℤ b → z <ℤ (b +ℤ pos 1)
at_most_before z a b h k = omega (arith, ints)

-- and so all of the segment, where that side is past its end
pub row_covered : (guide : Guide) (level : ℕ) (s : Sides) (z : ℤ) → s.yl ≡ s.yh → RowBefore guide level s (z +ℤ pos 1) → s.xh ≤ℤ z → CoversAll guide level s
row_covered guide level s z flat before past r h =
    subst (λ (y : ℤ). InGuide guide level (record { x = r.x; y = y })) (sym (same_between s.yl s.yh r.y flat h.low h.high)) (before r.x h.left (at_most_before r.x s.xh z h.right past))

pub column_covered : (guide : Guide) (level : ℕ) (s : Sides) (z : ℤ) → s.xl ≡ s.xh → ColumnBefore guide level s (z +ℤ pos 1) → s.yh ≤ℤ z → CoversAll guide level s
column_covered guide level s z flat before past r h =
    subst (λ (x : ℤ). InGuide guide level (record { x = x; y = r.y })) (sym (same_between s.xl s.xh r.x flat h.left h.right)) (before r.y h.low (at_most_before r.y s.yh z h.high past))

pub no_later : (a b : ℤ) → a ≡ b → a ≤ℤ b
no_later a b e = omega (arith, ints)

-- a point of the segment that no box holds
pub row_uncovered : (guide : Guide) (level : ℕ) (s : Sides) (at : Point) → s.yl ≡ s.yh → at.y ≡ s.yl → s.xl ≤ℤ at.x → at.x ≤ℤ s.xh → (InGuide guide level at → ⊥) → CoversAll guide level s → ⊥
row_uncovered guide level s at flat row from to none all = none (all at (record { left = from; right = to; low = no_later s.yl at.y (sym row); high = no_later at.y s.yh (row ∙ flat) }))

pub column_uncovered : (guide : Guide) (level : ℕ) (s : Sides) (at : Point) → s.xl ≡ s.xh → at.x ≡ s.xl → s.yl ≤ℤ at.y → at.y ≤ℤ s.yh → (InGuide guide level at → ⊥) → CoversAll guide level s → ⊥
column_uncovered guide level s at flat column from to none all = none (all at (record { left = no_later s.xl at.x (sym column); right = no_later at.x s.xh (column ∙ flat); low = from; high = to }))

pub in_guide_from_box : (guide : Guide) (level : ℕ) (b : Sides) (p : Point) → Holds b p → Contains guide (level, b) → InGuide guide level p
in_guide_from_box guide level b p h c = (c.0, (level, b), c.1, c.2, (refl, h))
