-- Steps along one track in one direction: the run over all of them is straight, and goes on like the last of them.
use Rattle.std.proofs.Common.{Bool, true, false, cond, not, ◌||◌, ◌≡◌, ◌≢◌, ◌⊎◌, inl, inr, ℤ, pos, negsuc, ◌-ℤ◌, ◌<ℤ◌, ◌≤ℤ◌, unsigned_abs, List, [], ◌∷◌, refl, sym, ◌∙◌, arith}
use Rattle.std.specs.Int.Signed.{lt_z}
use Rattle.std.proofs.lemmas.Int.{ints}
use Rattle.rt_base.specs.declared.geometry.Point.{Point}
use Rattle.rt_base.specs.declared.walk.Edge.{Edge}
use Rattle.rt_base.specs.declared.walk.EdgeKind.TheVariants.{Along}
use Rattle.rt_base.specs.declared.walk.Vertex.{Vertex}
use Rattle.track_graph.specs.Edges.{IsAlong}
use Rattle.track_graph.specs.Levels.{TrackSystem, is_horizontal}
use Rattle.rt_base.specs.Geometry.{distance}
use Rattle.track_graph.specs.Strokes.{is_up, is_same_direction, goes_on}
use Rattle.wire_cover.proofs.Joining.{Middle, IsBetween}

-- two different points of a horizontal line, or of a vertical one
abbrev pub AreInLine : Bool → Point → Point → Type 0
AreInLine true a b = (a.y ≡ b.y) × (a.x ≢ b.x)
AreInLine false a b = (a.x ≡ b.x) × (a.y ≢ b.y)

pub in_line : (g : TrackSystem) (v w : Vertex) → IsAlong g v w → AreInLine (is_horizontal g.tech v.level) v.point w.point
in_line g v w h = by_way (is_horizontal g.tech v.level) h.line h.neighbours.0
  where
    by_way : (t : Bool) → cond t v.point.y v.point.x ≡ cond t w.point.y w.point.x → cond t v.point.x v.point.y ≢ cond t w.point.x w.point.y → AreInLine t v.point w.point
    by_way true line apart = (line, apart)
    by_way false line apart = (line, apart)

-- ---- numbers

below : (a b : ℤ) → lt_z a b ≡ true → a <ℤ b
below a b h = grind (arith, ints)

not_below : (a b : ℤ) → lt_z a b ≡ false → b ≤ℤ a
not_below a b h = grind (arith, ints)

is_below : (a b : ℤ) → a <ℤ b → lt_z a b ≡ true
is_below a b h = grind (arith, ints)

isnt_below : (a b : ℤ) → b ≤ℤ a → lt_z a b ≡ false
isnt_below a b h = grind (arith, ints)

-- the second of three different numbers is between the others where both steps go one way
record OneWay (a b c : ℤ) : Type 0 where
  middle : Middle a b c
  apart : a ≢ c
  way : lt_z a c ≡ lt_z b c

one_way : (a b c : ℤ) → a ≢ b → b ≢ c → cond (lt_z a b) (lt_z b c) (not (lt_z b c)) ≡ true → OneWay a b c
one_way a b c first last h = by_first (lt_z a b) refl h
  where
    rising : a <ℤ b → b <ℤ c → OneWay a b c
    rising p q = record { middle = inl (omega (arith, ints), omega (arith, ints)); apart = λ (same : a ≡ c). omega (arith, ints); way = is_below a c (omega (arith, ints)) ∙ sym (is_below b c q) }

    falling : b ≤ℤ a → c ≤ℤ b → OneWay a b c
    falling p q = record { middle = inr (q, p); apart = λ (same : a ≡ c). first (omega (arith, ints)); way = isnt_below a c (omega (arith, ints)) ∙ sym (isnt_below b c q) }

    by_first : (t : Bool) → lt_z a b ≡ t → cond t (lt_z b c) (not (lt_z b c)) ≡ true → OneWay a b c
    by_first true p q = rising (below a b p) (below b c q)
    by_first false p q = falling (not_below a b p) (not_below b c (by_last (lt_z b c) q))
      where
        by_last : (s : Bool) → not s ≡ true → s ≡ false
        by_last true q = sym q
        by_last false q = refl

-- ---- points

flat_way : (a b : Point) → a.y ≡ b.y → is_up a b ≡ lt_z a.x b.x
flat_way a b same = rw (isnt_below a.y b.y (omega (arith, ints))) (no_more (lt_z a.x b.x))
  where
    no_more : (t : Bool) → (t || false) ≡ t
    no_more true = refl
    no_more false = refl

upright_way : (a b : Point) → a.x ≡ b.x → is_up a b ≡ lt_z a.y b.y
upright_way a b same = rw (isnt_below a.x b.x (omega (arith, ints))) refl

-- a step and one more in the same direction
pub record AreOneRun (h : Bool) (a b c : Point) : Type 0 where
  pub between : IsBetween a b c
  pub in_line : AreInLine h a c
  pub way : is_up a c ≡ is_up b c

pub one_run : (h : Bool) (a b c : Point) → AreInLine h a b → AreInLine h b c → is_same_direction a b c ≡ true → AreOneRun h a b c
one_run true a b c p q same =
    let way : OneWay a.x b.x c.x = one_way a.x b.x c.x p.1 q.1 (rw (flat_way a b p.0, flat_way b c q.0) at same) in
    record { between = inl (p.0, q.0, way.middle); in_line = (p.0 ∙ q.0, way.apart); way = flat_way a c (p.0 ∙ q.0) ∙ way.way ∙ sym (flat_way b c q.0) }
one_run false a b c p q same =
    let way : OneWay a.y b.y c.y = one_way a.y b.y c.y p.1 q.1 (rw (upright_way a b p.0, upright_way b c q.0) at same) in
    record { between = inr (p.0, q.0, way.middle); in_line = (p.0 ∙ q.0, way.apart); way = upright_way a c (p.0 ∙ q.0) ∙ way.way ∙ sym (upright_way b c q.0) }

-- what goes on depends on the direction alone
pub goes_on_like : (a b c : Point) (es : List Edge) → is_up a c ≡ is_up b c → goes_on a c es ≡ goes_on b c es
goes_on_like a b c [] way = refl
goes_on_like a b c (e ∷ es) way = rw way refl

-- points in line are straight apart
none_apart : (u v : ℤ) → unsigned_abs (u -ℤ v) ≡ 0 → u ≡ v
none_apart u v h = let none : (u -ℤ v) ≡ pos 0 = by_sign (u -ℤ v) h in omega (arith, ints)
  where
    by_sign : (z : ℤ) → unsigned_abs z ≡ 0 → z ≡ pos 0
    by_sign (pos n) h = rw h refl
    by_sign (negsuc n) h = absurd (omega arith)

pub in_line-straight : (h : Bool) (a b : Point) → AreInLine h a b → (a.x ≡ b.x) ⊎ (a.y ≡ b.y)
in_line-straight true a b p = inr p.0
in_line-straight false a b p = inl p.0

pub in_line-apart : (h : Bool) (a b : Point) → AreInLine h a b → distance a b ≢ 0
in_line-apart true a b p none = p.1 (none_apart a.x b.x (omega arith))
in_line-apart false a b p none = p.1 (none_apart a.y b.y (omega arith))

-- ---- where a run began

-- at the vertex itself, or before, and then these edges go on with it
abbrev pub Begins : Bool → Point → Point → List Edge → Type 0
Begins h from at es = (from ≡ at) ⊎ (AreInLine h from at × (goes_on from at es ≡ true))

-- the run up to the next vertex, the step along the track being part of it
pub record GoesTo (h : Bool) (from at to : Point) (es : List Edge) : Type 0 where
  pub in_line : AreInLine h from to
  pub goes_on : goes_on from to es ≡ goes_on at to es

pub goes_to : (h : Bool) (from at : Point) (e : Edge) (es : List Edge) → e.kind ≡ Along → AreInLine h at e.to.point → Begins h from at (e ∷ es) → GoesTo h from at e.to.point es
goes_to h from at e es kind step (inl same) = record { in_line = rw same step; goes_on = rw same refl }
goes_to h from at e es kind step (inr begun) =
    let run : AreOneRun h from at e.to.point = one_run h from at e.to.point begun.0 step (rw kind at begun.1) in
    record { in_line = run.in_line; goes_on = goes_on_like from at e.to.point es run.way }
