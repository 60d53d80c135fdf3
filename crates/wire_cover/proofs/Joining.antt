-- The wire between two points of a line covers what the two wires from and to a point between them cover.
use Rattle.std.proofs.Common.{◌≡◌, ℕ, suc, ◌/◌, sym, subst, unsigned_abs, ◌≤◌, ◌⊎◌, inl, inr, ⊎_elim, ℤ, pos, negsuc, ◌+ℤ◌, ◌-ℤ◌, ◌*ℤ◌, ◌<ℤ◌, ◌≤ℤ◌, [], ◌∷◌, arith}
use Rattle.std.specs.Int.{int_min, int_max}
use Rattle.std.proofs.lemmas.Int.{ints, clamps, by_lt_z}
use Rattle.std.proofs.Math.Nat.{mul-le-mul_left}
use Rattle.rt_base.specs.Geometry.{hull_of, grown}
use Rattle.rt_base.specs.declared.geometry.Point.{Point}
use Rattle.rt_base.specs.declared.tech.Tech.{Tech}
use Rattle.track_graph.specs.Levels.{width_of}
use Rattle.track_graph.specs.Metal.{wire_metal}
use Rattle.written.specs.Cover.{HoldsPart, CoverSame}
use Rattle.wire_cover.proofs.Covering.{IsOver, cover_joined}

-- what is in order is so in parts of a unit
pub scaled : (s : ℕ) (a b : ℤ) → a ≤ℤ b → (pos s *ℤ a) ≤ℤ (pos s *ℤ b)
scaled s (pos a) (pos b) h = let le : a ≤ b = omega (arith, ints) in omega (arith, ints, mul-le-mul_left s le)
scaled s (pos a) (negsuc b) h = absurd (omega (arith, ints))
scaled s (negsuc a) (pos b) h = omega (arith, ints)
scaled s (negsuc a) (negsuc b) h = let le : suc b ≤ suc a = omega (arith, ints) in omega (arith, ints, mul-le-mul_left s le)

-- one number is between two others
abbrev pub Middle : ℤ → ℤ → ℤ → Type 0
Middle a b c = ((a ≤ℤ b) × (b ≤ℤ c)) ⊎ ((c ≤ℤ b) × (b ≤ℤ a))

-- a number in parts of a unit is in a range
abbrev InRange : ℕ → ℤ → ℤ → ℤ → Type 0
InRange s low high z = ((pos s *ℤ low) ≤ℤ z) × (z ≤ℤ (pos s *ℤ high))

-- the range of a wire between two numbers
abbrev Reaches : ℕ → ℤ → ℤ → ℤ → ℤ → Type 0
Reaches s h a b z = InRange s (int_min a b -ℤ h) (int_max a b +ℤ h) z

wider : (s : ℕ) (l h l' h' z : ℤ) → l' ≤ℤ l → h ≤ℤ h' → InRange s l h z → InRange s l' h' z
wider s l h l' h' z low high (above, below) = let a = scaled s l' l low in let b = scaled s h h' high in (omega (arith, ints, a), omega (arith, ints, b))

together_left : (s k : ℕ) (a b c z : ℤ) → Middle a b c → Reaches s (pos k) a b z → Reaches s (pos k) a c z
together_left s k a b c z m h = wider s _ _ _ _ z (low m) (high m) h
  where
    low : Middle a b c → (int_min a c -ℤ pos k) ≤ℤ (int_min a b -ℤ pos k)
    low (inl m) = omega (arith, ints, clamps)
    low (inr m) = omega (arith, ints, clamps)

    high : Middle a b c → (int_max a b +ℤ pos k) ≤ℤ (int_max a c +ℤ pos k)
    high (inl m) = omega (arith, ints, clamps)
    high (inr m) = omega (arith, ints, clamps)

together_right : (s k : ℕ) (a b c z : ℤ) → Middle a b c → Reaches s (pos k) b c z → Reaches s (pos k) a c z
together_right s k a b c z m h = wider s _ _ _ _ z (low m) (high m) h
  where
    low : Middle a b c → (int_min a c -ℤ pos k) ≤ℤ (int_min b c -ℤ pos k)
    low (inl m) = omega (arith, ints, clamps)
    low (inr m) = omega (arith, ints, clamps)

    high : Middle a b c → (int_max b c +ℤ pos k) ≤ℤ (int_max a c +ℤ pos k)
    high (inl m) = omega (arith, ints, clamps)
    high (inr m) = omega (arith, ints, clamps)

at_most : (s : ℕ) (b t z : ℤ) → b ≤ℤ t → z ≤ℤ (pos s *ℤ b) → z ≤ℤ (pos s *ℤ t)
at_most s b t z le h = let more = scaled s b t le in omega (arith, ints, more)

at_least : (s : ℕ) (b t z : ℤ) → t ≤ℤ b → (pos s *ℤ b) ≤ℤ z → (pos s *ℤ t) ≤ℤ z
at_least s b t z le h = let less = scaled s t b le in omega (arith, ints, less)

weaker : (a b : ℤ) → a <ℤ b → a ≤ℤ b
weaker a b h = omega (arith, ints)

apart : (s k : ℕ) (a b c z : ℤ) → Middle a b c → Reaches s (pos k) a c z → Reaches s (pos k) a b z ⊎ Reaches s (pos k) b c z
apart s k a b c z (inl m) h = by_lt_z (pos s *ℤ b) z
    (λ above. inr (at_least s b _ z (omega (arith, ints, clamps)) (weaker _ z above), at_most s _ _ z (up m) h.1))
    (λ below. inl (at_least s _ _ z (down m) h.0, at_most s b _ z (omega (arith, ints, clamps)) below))
  where
    up : (a ≤ℤ b) × (b ≤ℤ c) → (int_max a c +ℤ pos k) ≤ℤ (int_max b c +ℤ pos k)
    up m = omega (arith, ints, clamps)

    down : (a ≤ℤ b) × (b ≤ℤ c) → (int_min a b -ℤ pos k) ≤ℤ (int_min a c -ℤ pos k)
    down m = omega (arith, ints, clamps)
apart s k a b c z (inr m) h = by_lt_z (pos s *ℤ b) z
    (λ above. inl (at_least s b _ z (omega (arith, ints, clamps)) (weaker _ z above), at_most s _ _ z (up m) h.1))
    (λ below. inr (at_least s _ _ z (down m) h.0, at_most s b _ z (omega (arith, ints, clamps)) below))
  where
    up : (c ≤ℤ b) × (b ≤ℤ a) → (int_max a c +ℤ pos k) ≤ℤ (int_max a b +ℤ pos k)
    up m = omega (arith, ints, clamps)

    down : (c ≤ℤ b) × (b ≤ℤ a) → (int_min b c -ℤ pos k) ≤ℤ (int_min a c -ℤ pos k)
    down m = omega (arith, ints, clamps)

-- a point of a line between two others
abbrev pub IsBetween : Point → Point → Point → Type 0
IsBetween a b c = ((a.y ≡ b.y) × (b.y ≡ c.y) × Middle a.x b.x c.x) ⊎ ((a.x ≡ b.x) × (b.x ≡ c.x) × Middle a.y b.y c.y)

holds : (s k : ℕ) (a c p : Point) → Reaches s (pos k) a.x c.x p.x → Reaches s (pos k) a.y c.y p.y → HoldsPart s (grown (hull_of a c) (pos k)) p
holds s k a c p x y = record { left = x.0; right = x.1; low = y.0; high = y.1 }

in_x : (s k : ℕ) (a c p : Point) → HoldsPart s (grown (hull_of a c) (pos k)) p → Reaches s (pos k) a.x c.x p.x
in_x s k a c p h = (h.left, h.right)

in_y : (s k : ℕ) (a c p : Point) → HoldsPart s (grown (hull_of a c) (pos k)) p → Reaches s (pos k) a.y c.y p.y
in_y s k a c p h = (h.low, h.high)

last_at : (s k : ℕ) (a b c z : ℤ) → b ≡ c → Reaches s (pos k) a b z → Reaches s (pos k) a c z
last_at s k a b c z same h = subst (λ (y : ℤ). Reaches s (pos k) a y z) same h

first_at : (s k : ℕ) (a b c z : ℤ) → a ≡ b → Reaches s (pos k) a c z → Reaches s (pos k) b c z
first_at s k a b c z same h = subst (λ (y : ℤ). Reaches s (pos k) y c z) same h

parted : (s k : ℕ) (a b c p : Point) → IsBetween a b c → HoldsPart s (grown (hull_of a c) (pos k)) p → HoldsPart s (grown (hull_of a b) (pos k)) p ⊎ HoldsPart s (grown (hull_of b c) (pos k)) p
parted s k a b c p (inl m) h = ⊎_elim
    (λ (l : Reaches s (pos k) a.x b.x p.x). inl (holds s k a b p l (last_at s k a.y c.y b.y p.y (sym m.1) (in_y s k a c p h))))
    (λ (r : Reaches s (pos k) b.x c.x p.x). inr (holds s k b c p r (first_at s k a.y b.y c.y p.y m.0 (in_y s k a c p h))))
    (apart s k a.x b.x c.x p.x m.2 (in_x s k a c p h))
parted s k a b c p (inr m) h = ⊎_elim
    (λ (l : Reaches s (pos k) a.y b.y p.y). inl (holds s k a b p (last_at s k a.x c.x b.x p.x (sym m.1) (in_x s k a c p h)) l))
    (λ (r : Reaches s (pos k) b.y c.y p.y). inr (holds s k b c p (first_at s k a.x b.x c.x p.x m.0 (in_x s k a c p h)) r))
    (apart s k a.y b.y c.y p.y m.2 (in_y s k a c p h))

left_held : (s k : ℕ) (a b c p : Point) → IsBetween a b c → HoldsPart s (grown (hull_of a b) (pos k)) p → HoldsPart s (grown (hull_of a c) (pos k)) p
left_held s k a b c p (inl m) h = holds s k a c p (together_left s k a.x b.x c.x p.x m.2 (in_x s k a b p h)) (last_at s k a.y b.y c.y p.y m.1 (in_y s k a b p h))
left_held s k a b c p (inr m) h = holds s k a c p (last_at s k a.x b.x c.x p.x m.1 (in_x s k a b p h)) (together_left s k a.y b.y c.y p.y m.2 (in_y s k a b p h))

right_held : (s k : ℕ) (a b c p : Point) → IsBetween a b c → HoldsPart s (grown (hull_of b c) (pos k)) p → HoldsPart s (grown (hull_of a c) (pos k)) p
right_held s k a b c p (inl m) h = holds s k a c p (together_right s k a.x b.x c.x p.x m.2 (in_x s k b c p h)) (first_at s k b.y a.y c.y p.y (sym m.0) (in_y s k b c p h))
right_held s k a b c p (inr m) h = holds s k a c p (first_at s k b.x a.x c.x p.x (sym m.0) (in_x s k b c p h)) (together_right s k a.y b.y c.y p.y m.2 (in_y s k b c p h))

-- the wire between two points for the two from and to a point between them
pub wires_joined : (tech : Tech) (level : ℕ) (a b c : Point) → IsBetween a b c → CoverSame (wire_metal tech level a c ∷ []) (wire_metal tech level a b ∷ wire_metal tech level b c ∷ [])
wires_joined tech level a b c m = cover_joined (wire_metal tech level a c) (wire_metal tech level a b) (wire_metal tech level b c)
    (λ layer s p over. ⊎_elim
    (λ (l : HoldsPart s (wire_metal tech level a b).1 p). inl (over.0, l))
    (λ (r : HoldsPart s (wire_metal tech level b c).1 p). inr (over.0, r))
    (parted s (unsigned_abs (width_of tech level) / 2) a b c p m over.1))
    (λ layer s p over. ⊎_elim
    (λ (l : IsOver layer s p (wire_metal tech level a b)). (l.0, left_held s (unsigned_abs (width_of tech level) / 2) a b c p m l.1))
    (λ (r : IsOver layer s p (wire_metal tech level b c)). (r.0, right_held s (unsigned_abs (width_of tech level) / 2) a b c p m r.1))
    over)
