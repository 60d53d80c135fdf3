-- Cells and columns of cells.
use Rattle.std.proofs.Common.{◌≡◌, ℕ, ◌+◌, ◌-◌, ◌/◌, ◌%◌, ◌^◌, ◌<◌, ◌≤◌, ℤ, negsuc, ◌≤ℤ◌, ◌∙◌, ap, min, inl, inr, arith}
use Rattle.std.specs.Int.{int_gap}
use Rattle.std.specs.Bool.{OnFalse}
use lib.Dec.{ltb}
use borrow.Author.Tests.{ltb-false}
use Rattle.std.proofs.lemmas.Bool.{OnFalse_from}
use Rattle.std.proofs.lemmas.Int.{ints}
use Rattle.std.proofs.lemmas.Bool.{cases_lt}
use Rattle.std.proofs.lemmas.Nat.{pow_pos, le-div, mod_below}
use Rattle.std.proofs.Math.Nat.{div-mul-le_self, mod-add-mod, add-mod-mod, mod-le, mod-eq_of_lt, mod-eq-sub-mod, div-one}
use Rattle.shape_grid.specs.Cells.{cell_of}

pub quotients : (a b n : ℕ) → 0 < n → a ≤ b → a / n ≤ b / n
quotients a b n some le = le-div (a / n) b n some (omega (arith, div-mul-le_self a n))

-- a greater coordinate is in no lesser cell
pub cell_of-le : (a b : ℤ) (shift : ℕ) → a ≤ℤ b → cell_of a shift ≤ cell_of b shift
unfolding cell_of
cell_of-le a b shift le =
    let gaps : int_gap (negsuc (2 ^ 63 - 1)) a ≤ int_gap (negsuc (2 ^ 63 - 1)) b = grind (arith, ints) in
    quotients _ _ (2 ^ shift) (pow_pos shift) gaps

-- a column among those from the first on, which come round
pub covered : (low last cell side : ℕ) → 0 < side → low ≤ cell → cell ≤ last → (i : ℕ) × (i < min (last - low) (side - 1) + 1) × ((low % side + i) % side ≡ cell % side)
covered low last cell side some from to =
    let below = mod_below (cell - low) side some in
    let most = mod-le (cell - low) side in
    let sum : low + (cell - low) ≡ cell = omega arith in
    ((cell - low) % side, omega arith, mod-add-mod low side ((cell - low) % side) ∙ add-mod-mod low (cell - low) side ∙ ap (λ (n : ℕ). n % side) sum)

-- a number that is among those from the first on, which come round, stands so far behind the first
pub turned : (first i side number : ℕ) → first < side → i < side → (first + i) % side ≡ number → (number < first → i ≡ number + side - first) × (first ≤ number → i ≡ number - first)
turned first i side number one two is =
    elim (cases_lt (first + i) side) [
      | inl less ↦ (let e = mod-eq_of_lt less in (λ h. omega arith, λ h. omega arith))
      | inr more ↦ (let e : (first + i) % side ≡ first + i - side = mod-eq-sub-mod more ∙ mod-eq_of_lt (omega arith) in (λ h. omega arith, λ h. omega arith))
    ]

-- a number that stands not so near behind the first is not among those from it on
pub not_among : (first count side number : ℕ) → first < side → count ≤ side → number < first → OnFalse (ltb (number + side - first) count) ((i : ℕ) → i < count → (first + i) % side ≡ number → ⊥)
not_among first count side number one many before =
    OnFalse_from _ ((i : ℕ) → i < count → (first + i) % side ≡ number → ⊥) (λ no. λ i less is. (let far : count ≤ number + side - first = ltb-false _ _ no in let at : i ≡ number + side - first = (turned first i side number one (omega arith) is).0 before in omega arith))

-- a cell of side 1 by a side
pub cell_of-div : (z : ℤ) (shift : ℕ) → cell_of z 0 / 2 ^ shift ≡ cell_of z shift
unfolding cell_of
cell_of-div z shift = ap (λ (n : ℕ). n / 2 ^ shift) (div-one (int_gap (negsuc (2 ^ 63 - 1)) z))
