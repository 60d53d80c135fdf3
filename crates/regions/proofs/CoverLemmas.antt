-- The parts of a line in the boxes of a guide.
use Rattle.std.proofs.Common.{◌≡◌, ◌⊎◌, ◌↔◌, ℕ, ◌+◌, ◌^◌, ◌<◌, ◌≤◌, ℤ, pos, ◌≤ℤ◌, ◌<ℤ◌, Bool, true, false, cond, List, [], ◌∷◌, ◌++◌, length, get_or, slice_get, take, Option, option_map, unwrap_or, Some, None, All, Any, inl, inr, refl, sym, subst, arith, lit≤}
use Rattle.std.proofs.lemmas.Int.{ints}
use Rattle.std.proofs.lemmas.List.{take_all}
use Rattle.std.proofs.lemmas.List.Elements.{All-push, All-weaker}
use Rattle.rt_base.specs.Geometry.{Holds}
use Rattle.rt_base.specs.Ranges.{AreSidesWithin}
use Rattle.rt_base.specs.Sides.{Sides}
use Rattle.rt_base.specs.declared.geometry.Span.{Span}
use Rattle.rt_base.proofs.Ranges.{sides_from_within, sides-weaker}
use Rattle.rt_base.specs.declared.tech.Tech.{Tech}
use Rattle.track_graph.specs.declared.design.Design.{Design}
use Rattle.track_graph.specs.declared.design.Net.{Net}
use Rattle.track_graph.specs.Designs.{IsDesign, IsNet}
use Rattle.track_graph.specs.Levels.{track_system_of, is_horizontal}
use Rattle.track_graph.specs.Searches.{guide_of}
use Rattle.regions.specs.declared.cover.Line.{Line}
use Rattle.regions.specs.Spans.{InSpan, InSpans, AreFull}
use Rattle.regions.specs.Covered.{point_at, line_on, InBox, IsPart}
use Rattle.regions.proofs.Lists.{any_push, any_more}
use Rattle.rt_base.proofs.Lists.{All-at, Any-none}
use Rattle.regions.proofs.SpanLemmas.{ends_in}

-- the boxes' parts of a line, as spans
pub record ArePartsOf (line : Line) (level : ℕ) (boxes : List (ℕ × Sides)) (spans : List Span) : Type 0 where
  pub full : AreFull spans
  pub exact : (z : ℤ) → InSpans spans z ↔ Any (λ (box : ℕ × Sides). InBox box level (point_at line z)) boxes

pub parts_none : (line : Line) (level : ℕ) → ArePartsOf line level [] []
parts_none line level = record {
  full = λ k d lt. absurd (omega (arith, lt));
  exact = λ z. (λ h. absurd (Any-none (λ (s : Span). InSpan s z) h), λ h. absurd (Any-none (λ (box : ℕ × Sides). InBox box level (point_at line z)) h));
}

-- one box more, which the line crosses
pub parts_more : (line : Line) (level : ℕ) (boxes : List (ℕ × Sides)) (i : ℕ) (box : ℕ × Sides) (spans : List Span) (s : Span) → i < length boxes → box ≡ get_or boxes i box → IsPart line level box s → ArePartsOf line level (take i boxes) spans → ArePartsOf line level (take (i + 1) boxes) (spans ++ s ∷ [])
parts_more line level boxes i box spans s within at part h = record {
  full = All-push (λ (t : Span). t.lo ≤ℤ t.hi) spans s h.full part.full;
  exact = λ z. (
    λ j. (any_more (λ (b : ℕ × Sides). InBox b level (point_at line z)) boxes i box within at).1 (to z ((any_push (λ (t : Span). InSpan t z) spans s).0 j)),
    λ a. (any_push (λ (t : Span). InSpan t z) spans s).1 (back z ((any_more (λ (b : ℕ × Sides). InBox b level (point_at line z)) boxes i box within at).0 a)),
  );
}
  where
    to : (z : ℤ) → InSpans spans z ⊎ InSpan s z → Any (λ (b : ℕ × Sides). InBox b level (point_at line z)) (take i boxes) ⊎ InBox box level (point_at line z)
    to z (inl j) = inl ((h.exact z).0 j)
    to z (inr j) = inr ((part.exact z).0 j)

    back : (z : ℤ) → Any (λ (b : ℕ × Sides). InBox b level (point_at line z)) (take i boxes) ⊎ InBox box level (point_at line z) → InSpans spans z ⊎ InSpan s z
    back z (inl a) = inl ((h.exact z).1 a)
    back z (inr a) = inr ((part.exact z).1 a)

-- one box more, which the line misses
pub parts_skip : (line : Line) (level : ℕ) (boxes : List (ℕ × Sides)) (i : ℕ) (box : ℕ × Sides) (spans : List Span) → i < length boxes → box ≡ get_or boxes i box → ((z : ℤ) → InBox box level (point_at line z) → ⊥) → ArePartsOf line level (take i boxes) spans → ArePartsOf line level (take (i + 1) boxes) spans
parts_skip line level boxes i box spans within at misses h = record {
  full = h.full;
  exact = λ z. (
    λ j. (any_more (λ (b : ℕ × Sides). InBox b level (point_at line z)) boxes i box within at).1 (inl ((h.exact z).0 j)),
    λ a. (h.exact z).1 (only z ((any_more (λ (b : ℕ × Sides). InBox b level (point_at line z)) boxes i box within at).0 a)),
  );
}
  where
    only : (z : ℤ) → Any (λ (b : ℕ × Sides). InBox b level (point_at line z)) (take i boxes) ⊎ InBox box level (point_at line z) → Any (λ (b : ℕ × Sides). InBox b level (point_at line z)) (take i boxes)
    only z (inl a) = a
    only z (inr a) = absurd (misses z a)

pub parts_all : (line : Line) (level : ℕ) (boxes : List (ℕ × Sides)) (i : ℕ) (spans : List Span) → length boxes ≤ i → ArePartsOf line level (take i boxes) spans → ArePartsOf line level boxes spans
parts_all line level boxes i spans past h = subst (λ (bs : List (ℕ × Sides)). ArePartsOf line level bs spans) (take_all i boxes past) h

-- where a box holds a point of a line
held_low : (b : Bool) (at z : ℤ) (s : Sides) → AreSidesWithin (2 ^ 32) s → Holds s (cond b (record { x = z; y = at }) (record { x = at; y = z })) → z <ℤ pos (2 ^ 62)
held_low true at z s sides h = let high = sides_from_within (2 ^ 32) s.xh sides.2 in omega (arith, ints, high.0, h.right)
held_low false at z s sides h = let high = sides_from_within (2 ^ 32) s.yh sides.3 in omega (arith, ints, high.0, h.high)

pub parts_small : (line : Line) (level : ℕ) (boxes : List (ℕ × Sides)) (spans : List Span) → All (λ (box : ℕ × Sides). AreSidesWithin (2 ^ 32) box.1) boxes → AreFull spans → ((z : ℤ) → InSpans spans z ↔ Any (λ (box : ℕ × Sides). InBox box level (point_at line z)) boxes) → All (λ (s : Span). s.hi <ℤ pos (2 ^ 62)) spans
parts_small line level boxes spans sides full exact =
    All-weaker (λ (s : Span). (s.lo <ℤ pos (2 ^ 62)) × (s.hi <ℤ pos (2 ^ 62))) (λ (s : Span). s.hi <ℤ pos (2 ^ 62)) (λ s h. h.1) spans
    (ends_in (λ z. z <ℤ pos (2 ^ 62)) spans full (λ z h. small z ((exact z).0 h)))
  where
    small : (z : ℤ) → Any (λ (box : ℕ × Sides). InBox box level (point_at line z)) boxes → z <ℤ pos (2 ^ 62)
    small z (k, box, lt, is, (on, holds)) = held_low line.in_x line.at z box.1 (subst (λ (b : ℕ × Sides). AreSidesWithin (2 ^ 32) b.1) is (sides k box lt)) holds

-- the boxes of a design's guides are in range
pub guide_sides : (d : Design) (n : ℕ) → IsDesign d → All (λ (box : ℕ × Sides). AreSidesWithin (2 ^ 32) box.1) (guide_of d n)
guide_sides d n ok = by_net (slice_get d.nets n) refl
  where
    by_net : (o : Option Net) → slice_get d.nets n ≡ o → All (λ (box : ℕ × Sides). AreSidesWithin (2 ^ 32) box.1) (unwrap_or (option_map (λ (net : Net). net.guide) o) [])
    by_net None is = λ k d lt. absurd (omega (arith, lt))
    by_net (Some net) is = (All-at (IsNet (track_system_of d)) d.nets n net ok.nets is).guide

pub guide_sides_wide : (d : Design) (n : ℕ) (boxes : List (ℕ × Sides)) → IsDesign d → boxes ≡ guide_of d n → All (λ (box : ℕ × Sides). AreSidesWithin (2 ^ 61) box.1) boxes
guide_sides_wide d n boxes ok is =
    subst (All (λ (box : ℕ × Sides). AreSidesWithin (2 ^ 61) box.1)) (sym is)
    (All-weaker (λ (box : ℕ × Sides). AreSidesWithin (2 ^ 32) box.1) (λ (box : ℕ × Sides). AreSidesWithin (2 ^ 61) box.1) (λ box h. sides-weaker (2 ^ 32) (2 ^ 61) box.1 (lit≤ tt) h) (guide_of d n) (guide_sides d n ok))

-- a track line of a level, by its parts
pub line_is : (tech : Tech) (level : ℕ) (line : ℤ) (in_x : Bool) (at : ℤ) → in_x ≡ is_horizontal tech level → at ≡ line → (let l : Line = record { in_x = in_x; at = at } in l ≡ line_on tech level line)
line_is tech level line in_x at of_level on_line = rw (of_level, on_line) refl
