-- What a technology says of wires, and the conflicts of their squares.
use Rattle.std.proofs.Common.{◌≡◌, ◌∙◌, ℕ, ◌+◌, ◌^◌, ◌/◌, ◌≤◌, ℤ, pos, ◌+ℤ◌, ◌-ℤ◌, ◌≤ℤ◌, Bool, true, false, ◌==◌, ◌&&◌, IfSome, IfNone, Some, None, Option, slice_get, option_map, unwrap_or, unsigned_abs, refl, sym, ap, subst, arith}
use Rattle.std.proofs.lemmas.Int.{ints, clamps}
use Rattle.std.specs.Int.{int_min, int_max}
use Rattle.rt_base.specs.Ranges.{IsWithin, AreSidesWithin, IsWidth}
use Rattle.rt_base.specs.Sides.{Sides}
use Rattle.rt_base.specs.declared.tech.Layer.{Layer}
use Rattle.rt_base.specs.declared.tech.Tech.{Tech}
use Rattle.rt_base.proofs.Lists.{All-at}
use Rattle.rt_base.proofs.Ranges.{within_from_sides}
use Rattle.track_graph.specs.Designs.{IsTech}
use Rattle.track_graph.specs.Levels.{levels}
use Rattle.track_graph.specs.Metal.{half_width}
use Rattle.track_graph.specs.Metal.{wire_metal}
use Rattle.track_graph.specs.Levels.{layer_no}
use Rattle.std.proofs.lemmas.Bool.Decides.{nat_tests}
use Rattle.rt_base.specs.Conflict.{spacing_of, is_near_of}
use Rattle.rt_base.specs.Geometry.{moved, gap_x, gap_y}
use Rattle.rt_base.specs.declared.geometry.Point.{Point}
use Rattle.rt_base.specs.declared.tech.LayerNo.{LayerNo}
use Rattle.rt_base.specs.declared.tech.Shape.{Shape}
use Rattle.regions.specs.Covered.{line_on, point_at}
use Rattle.legality.specs.Forbidden.{is_near_at, is_forbidden, IsSpanOf, IsMover}
use Rattle.legality.specs.Rules.{wire_square, rule_at, wire_mover, IsRule}
use Rattle.legality.specs.declared.mover.Mover.{Mover}
use Rattle.legality.specs.declared.rule.WireRule.{WireRule}
use Rattle.rt_base.specs.declared.geometry.Span.{Span}

-- half a width is small
pub half_small : (tech : Tech) (level : ℕ) → IsTech tech → half_width tech level ≤ℤ pos (2 ^ 31)
half_small tech level ok = by_level (slice_get (levels tech) level) refl
  where
    by_level : (o : Option (ℕ × Layer)) → slice_get (levels tech) level ≡ o → pos (unsigned_abs (unwrap_or (option_map (λ (l : ℕ × Layer). l.1.width) o) (pos 0)) / 2) ≤ℤ pos (2 ^ 31)
    by_level None e = omega (arith, ints)
    by_level (Some l) e =
        let w : IsWidth l.1.width = All-at (λ (x : ℕ × Layer). IsWidth x.1.width) (levels tech) level l ok.widths e in
        let low = w.0 in
        let high = w.1 in
        let most : unsigned_abs l.1.width ≤ 2 ^ 32 = grind (arith, ints) in
        omega (arith, ints, most)

-- so the square of a wire round (0, 0) is in range
square_side : (h : ℤ) → pos 0 ≤ℤ h → h ≤ℤ pos (2 ^ 31) → IsWithin (2 ^ 60 + 2 ^ 30) (int_min (pos 0) (pos 0) -ℤ h) × IsWithin (2 ^ 60 + 2 ^ 30) (int_max (pos 0) (pos 0) +ℤ h)
square_side h low high = (within_from_sides (2 ^ 60 + 2 ^ 30) (int_min (pos 0) (pos 0) -ℤ h) (omega (arith, ints, clamps)) (omega (arith, ints, clamps)), within_from_sides (2 ^ 60 + 2 ^ 30) (int_max (pos 0) (pos 0) +ℤ h) (omega (arith, ints, clamps)) (omega (arith, ints, clamps)))

pub square_within : (tech : Tech) (level : ℕ) → IsTech tech → AreSidesWithin (2 ^ 60 + 2 ^ 30) (wire_square tech level).1
square_within tech level ok =
    let s = square_side (half_width tech level) (omega (arith, ints)) (half_small tech level ok) in
    (s.0, s.0, s.1, s.1)

-- no spacing is large
pub spacing_small : (tech : Tech) (layer : LayerNo) → IsTech tech → spacing_of tech layer ≤ 2 ^ 32
spacing_small tech layer ok = by_layer (slice_get tech.layers layer.0) refl
  where
    by_layer : (o : Option Layer) → slice_get tech.layers layer.0 ≡ o → unsigned_abs (int_max (unwrap_or (option_map (λ (l : Layer). l.spacing) o) (pos 0)) (pos 1)) ≤ 2 ^ 32
    by_layer None e = omega arith
    by_layer (Some l) e = let h : IsWithin (2 ^ 32) l.spacing = All-at (λ (x : Layer). IsWithin (2 ^ 32) x.spacing) tech.layers layer.0 l ok.spacings e in grind (arith, ints)

-- the square of a wire at a point is that at (0, 0), moved there
side_low : (p h : ℤ) → (int_min (pos 0) (pos 0) -ℤ h) +ℤ p ≡ int_min p p -ℤ h
side_low p h = grind (arith, ints, clamps)

side_high : (p h : ℤ) → (int_max (pos 0) (pos 0) +ℤ h) +ℤ p ≡ int_max p p +ℤ h
side_high p h = grind (arith, ints, clamps)

pub square_moved : (tech : Tech) (level : ℕ) (p : Point) → moved p (wire_square tech level).1 ≡ (wire_metal tech level p p).1
square_moved tech level p =
    let h = half_width tech level in
    rw (side_low p.x h, side_low p.y h, side_high p.x h, side_high p.y h) refl

-- the wire's square is too near exactly where its rule says so, on the layer of the level
pub forbidden_by_rule : (tech : Tech) (s : Shape) (level : ℕ) (line z : ℤ) → layer_no tech level ≡ s.layer.0 → is_near_at (wire_mover (rule_at tech s level) line) s.rect z ≡ is_forbidden tech s level line z
forbidden_by_rule tech s level line z on =
    let p = point_at (line_on tech level line) z in
    let same : (layer_no tech level == s.layer.0) ≡ true = equal (layer_no tech level) s.layer.0 on in
    let square = (wire_metal tech level p p).1 in
    ap (λ (q : Sides). is_near_of (gap_x q s.rect) (gap_y q s.rect) (spacing_of tech s.layer)) (square_moved tech level p)
    ∙ ap (λ (n : ℕ). is_near_of (gap_x square s.rect) (gap_y square s.rect) (spacing_of tech (record { 0 = n }))) (sym on)
    ∙ ap (λ (b : Bool). b && is_near_of (gap_x square s.rect) (gap_y square s.rect) (spacing_of tech (record { 0 = layer_no tech level }))) (sym same)
  where
    equal : (m n : ℕ) → m ≡ n → (m == n) ≡ true
    equal m n e = grind (arith, nat_tests)

pub not_forbidden : (tech : Tech) (s : Shape) (level : ℕ) (line z : ℤ) → (layer_no tech level ≡ s.layer.0 → ⊥) → is_forbidden tech s level line z ≡ false
not_forbidden tech s level line z other = rw (differ (layer_no tech level) s.layer.0 other) refl
  where
    differ : (m n : ℕ) → (m ≡ n → ⊥) → (m == n) ≡ false
    differ m n h = grind (arith, nat_tests)

-- the same test, said in another way
pub span_same : (p q : ℤ → Bool) (s : Span) → ((z : ℤ) → p z ≡ q z) → IsSpanOf p s → IsSpanOf q s
span_same p q s same h = record { full = h.full; exact = λ z. (λ i. sym (same z) ∙ (h.exact z).0 i, λ t. (h.exact z).1 (same z ∙ t)) }

-- an answer of the rule's rectangle is one of the shape
pub some_forbidden : (tech : Tech) (s : Shape) (level : ℕ) (line at : ℤ) (m : Mover) (o : Option Span) → layer_no tech level ≡ s.layer.0 → at ≡ line → m ≡ wire_mover (rule_at tech s level) at → IfSome o (IsSpanOf (is_near_at m s.rect)) → IfSome o (IsSpanOf (is_forbidden tech s level line))
some_forbidden tech s level line at m None on is rule h = tt
some_forbidden tech s level line at m (Some span) on is rule h =
    span_same (is_near_at (wire_mover (rule_at tech s level) line) s.rect) (is_forbidden tech s level line) span (λ z. forbidden_by_rule tech s level line z on)
    (subst (λ (a : ℤ). IsSpanOf (is_near_at (wire_mover (rule_at tech s level) a) s.rect) span) is (subst (λ (n : Mover). IsSpanOf (is_near_at n s.rect) span) rule h))

pub none_forbidden : (tech : Tech) (s : Shape) (level : ℕ) (line at : ℤ) (m : Mover) (o : Option Span) → layer_no tech level ≡ s.layer.0 → at ≡ line → m ≡ wire_mover (rule_at tech s level) at → IfNone o ((z : ℤ) → is_near_at m s.rect z ≡ false) → IfNone o ((z : ℤ) → is_forbidden tech s level line z ≡ false)
none_forbidden tech s level line at m None on is rule h = λ z.
    sym (forbidden_by_rule tech s level line z on)
    ∙ subst (λ (a : ℤ). is_near_at (wire_mover (rule_at tech s level) a) s.rect z ≡ false) is (subst (λ (n : Mover). is_near_at n s.rect z ≡ false) rule (h z))
none_forbidden tech s level line at m (Some span) on is rule h = tt

-- a rectangle of a rule in range, moving along a line in range
pub mover_fits : (r : WireRule) (line at : ℤ) (m : Mover) → at ≡ line → m ≡ wire_mover r at → IsRule r → IsWithin (2 ^ 61) line → IsMover m
mover_fits r line at m is rule ok within = subst IsMover (sym rule) (record { line = subst (IsWithin (2 ^ 61)) (sym is) within; rect = ok.square; spacing = ok.spacing })
