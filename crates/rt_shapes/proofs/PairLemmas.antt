-- Ascending numbers taken in pairs, from the 1st to the 2nd, from the 3rd to the 4th and so on.
use Rattle.std.proofs.Common.{◌≡◌, ◌+◌, ◌%◌, ◌-ℤ◌, ◌<ℤ◌, ◌≤ℤ◌, [], ◌∷◌, ℕ, ℤ, inr, pos, int_le, List, length, get_or, All, Any, AllPairs, count_by, refl, sym, arith}
use Rattle.std.proofs.lemmas.Int.{ints, by_lt_z}
use Rattle.std.proofs.lemmas.List.Elements.{All-nil, All-cons, All-head}
use Rattle.std.proofs.lemmas.List.Kept.{AllPairs-cons}
use Rattle.rt_base.specs.Sides.{Sides}
use Rattle.rt_shapes.specs.Polygons.{IsAscending, slab_of}
use Rattle.rt_shapes.specs.EvenOdd.{HasSquare, IsBefore}
use Rattle.rt_shapes.proofs.Risings.{above_more, ascending-head, ascending-tail}
use Rattle.rt_shapes.proofs.Parity.{le_true, le_false, count-cons, count-none}
use Rattle.rt_shapes.proofs.Somewhere.{any-here, any-later, all_pairs-nil}

-- how many numbers are at most x
abbrev pub upto : ℤ → List ℤ → ℕ
upto x xs = count_by (λ z. int_le z x) xs

upto-more : (x z : ℤ) (zs : List ℤ) → z ≤ℤ x → upto x (z ∷ zs) ≡ 1 + upto x zs
upto-more x z zs h = rw (count-cons (λ w. int_le w x) z zs, le_true z x h)

upto-none : (x : ℤ) (zs : List ℤ) → All (λ z. x <ℤ z) zs → upto x zs ≡ 0
upto-none x zs all = count-none (λ z. int_le z x) zs (λ k d h. le_false (get_or zs k d) x (all k d h))

pub first_above : (x z : ℤ) (zs : List ℤ) → x <ℤ z → IsAscending (z ∷ zs) → All (λ w. x <ℤ w) (z ∷ zs)
first_above x z zs lt up = All-cons (λ w. x <ℤ w) z zs lt (above_more x z zs lt (ascending-head z zs up))

-- from the 1st to the 2nd, from the 3rd to the 4th and so on: where an odd number is at most x
pub pairs-cover : (x y low high : ℤ) (xs : List ℤ) → IsAscending xs → length xs % 2 ≡ 0 → low ≤ℤ y → y <ℤ high → upto x xs % 2 ≡ 1 → Any (HasSquare x y) (slab_of low high xs)
pairs-cover x y low high [] up even l h odd = absurd (omega arith)
pairs-cover x y low high (a ∷ []) up even l h odd = absurd (omega arith)
pairs-cover x y low high (a ∷ b ∷ xs) up even l h odd = by_lt_z x a
    (λ lt. let none = upto-none x (a ∷ b ∷ xs) (first_above x a (b ∷ xs) lt up) in absurd (omega arith))
    (λ from. by_lt_z x b
    (λ lt. any-here (HasSquare x y) (record { xl = a; yl = low; xh = b; yh = high }) (slab_of low high xs) (record { left = from; right = lt; low = l; high = h }))
    (λ past.
    let one = upto-more x a (b ∷ xs) from in
    let two = upto-more x b xs past in
    any-later (HasSquare x y) (record { xl = a; yl = low; xh = b; yh = high }) (slab_of low high xs) (pairs-cover x y low high xs (ascending-tail b xs (ascending-tail a (b ∷ xs) up)) (omega arith) l h (omega arith))))

-- what the pairs above a number are
pub record IsPair (base low high : ℤ) (xs : List ℤ) (s : Sides) : Type 0 where
  pub lower : s.yl ≡ low
  pub upper : s.yh ≡ high
  pub above : base <ℤ s.xl
  pub wide : s.xl <ℤ s.xh
  pub before : upto (s.xl -ℤ pos 1) xs % 2 ≡ 0
  pub within : (x : ℤ) → s.xl ≤ℤ x → x <ℤ s.xh → upto x xs % 2 ≡ 1
  pub behind : upto s.xh xs % 2 ≡ 0

pair-first : (base low high a b : ℤ) (xs : List ℤ) → base <ℤ a → IsAscending (a ∷ b ∷ xs) → IsPair base low high (a ∷ b ∷ xs) (record { xl = a; yl = low; xh = b; yh = high })
pair-first base low high a b xs lt up =
    let rest = ascending-tail a (b ∷ xs) up in
    let rising : a <ℤ b = up 0 1 (pos 0) (omega arith) (omega arith) in
    let none = upto-none (a -ℤ pos 1) (a ∷ b ∷ xs) (first_above (a -ℤ pos 1) a (b ∷ xs) (omega (arith, ints)) up) in
    let both = upto-more b a (b ∷ xs) (omega (arith, ints)) in
    let second = upto-more b b xs (omega (arith, ints)) in
    let last = upto-none b xs (ascending-head b xs rest) in
    record {
      lower = refl;
      upper = refl;
      above = lt;
      wide = rising;
      before = omega arith;
      within = λ x from to.
          let one = upto-more x a (b ∷ xs) from in
          let none = upto-none x (b ∷ xs) (first_above x b xs to rest) in
          omega arith;
      behind = omega arith;
    }

pair-later : (base low high a b : ℤ) (xs : List ℤ) (s : Sides) → base <ℤ a → a <ℤ b → IsPair b low high xs s → IsPair base low high (a ∷ b ∷ xs) s
pair-later base low high a b xs s lt rising h =
    let above : b <ℤ s.xl = h.above in
    let wide : s.xl <ℤ s.xh = h.wide in
    let two : (x : ℤ) → b ≤ℤ x → upto x (a ∷ b ∷ xs) ≡ 2 + upto x xs = λ x le. two_more x le in
    let before = two (s.xl -ℤ pos 1) (omega (arith, ints)) in
    let behind = two s.xh (omega (arith, ints)) in
    record {
      lower = h.lower;
      upper = h.upper;
      above = omega (arith, ints);
      wide = wide;
      before = omega (arith, h.before);
      within = λ x from to.
          let more = two x (omega (arith, ints)) in
          omega (arith, h.within x from to);
      behind = omega (arith, h.behind);
    }
  where
    two_more : (x : ℤ) → b ≤ℤ x → upto x (a ∷ b ∷ xs) ≡ 2 + upto x xs
    two_more x le =
        let one = upto-more x a (b ∷ xs) (omega (arith, ints)) in
        let two = upto-more x b xs le in
        omega arith

pairs-are : (base low high : ℤ) (xs : List ℤ) → All (λ x. base <ℤ x) xs → IsAscending xs → All (IsPair base low high xs) (slab_of low high xs)
pairs-are base low high [] all up = All-nil (IsPair base low high [])
pairs-are base low high (a ∷ []) all up = All-nil (IsPair base low high (a ∷ []))
pairs-are base low high (a ∷ b ∷ xs) all up =
    let lt : base <ℤ a = All-head (λ x. base <ℤ x) a (b ∷ xs) all in
    let rising : a <ℤ b = up 0 1 (pos 0) (omega arith) (omega arith) in
    let rest = ascending-tail a (b ∷ xs) up in
    let later = pairs-are b low high xs (ascending-head b xs rest) (ascending-tail b xs rest) in
    All-cons (IsPair base low high (a ∷ b ∷ xs)) (record { xl = a; yl = low; xh = b; yh = high }) (slab_of low high xs) (pair-first base low high a b xs lt up) (λ k d h. pair-later base low high a b xs (get_or (slab_of low high xs) k d) lt rising (later k d h))

pub slab-pairs : (low high : ℤ) (xs : List ℤ) → IsAscending xs → (base : ℤ) × All (IsPair base low high xs) (slab_of low high xs)
slab-pairs low high [] up = (low, All-nil (IsPair low low high []))
slab-pairs low high (a ∷ xs) up = (a -ℤ pos 1, pairs-are (a -ℤ pos 1) low high (a ∷ xs) (first_above (a -ℤ pos 1) a xs (omega (arith, ints)) up) up)

pub pairs-ordered : (low high : ℤ) (xs : List ℤ) → IsAscending xs → AllPairs IsBefore (slab_of low high xs)
pairs-ordered low high [] up = all_pairs-nil IsBefore
pairs-ordered low high (a ∷ []) up = all_pairs-nil IsBefore
pairs-ordered low high (a ∷ b ∷ xs) up =
    let rest = ascending-tail a (b ∷ xs) up in
    let later = pairs-are b low high xs (ascending-head b xs rest) (ascending-tail b xs rest) in
    AllPairs-cons IsBefore (record { xl = a; yl = low; xh = b; yh = high }) (slab_of low high xs) (λ k d h. inr (sym (later k d h).lower, (later k d h).above)) (pairs-ordered low high xs (ascending-tail b xs rest))
