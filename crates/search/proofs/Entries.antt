-- Entries of a table, copied one after the other.
use Rattle.std.proofs.Common.{◌≡◌, ◌∙◌, ℕ, zero, suc, ◌+◌, ◌<◌, List, [], ◌∷◌, Bool, false, cond, length, get_or, take, sym, ap, nat_eq, arith, inl, inr, slice_get, Some, Option, unwrap_or}
use Rattle.std.specs.List.{AllByRecursion, IsDistinct}
use Rattle.std.specs.Map.{keys_of}
use Rattle.std.proofs.lemmas.Bool.Decides.{eqb_tells}
use Rattle.std.proofs.lemmas.Option.{slice_get_within, unwrap_or-slice_get}
use Rattle.indexmap.specs.IndexMap.{insert_entry}

other_at : {T : Type 0} (n : ℕ) (es : List (ℕ × T)) (i : ℕ) (x : ℕ × T) → AllByRecursion (λ y. nat_eq n y ≡ false) (keys_of es) → i < length es → get_or es i x ≡ x → nat_eq n x.0 ≡ false
other_at n [] i x all less is = absurd (omega (arith, less))
other_at n (e ∷ es) zero x all less is = ap (λ y. nat_eq n y.0) (sym is) ∙ all.0
other_at n (e ∷ es) (suc i) x all less is = other_at n es i x all.1 (omega (arith, less)) is

turned_round : (n m : ℕ) → nat_eq n m ≡ false → nat_eq m n ≡ false
turned_round n m other = elim (eqb_tells m n) [
  | inl same ↦ absurd cc
  | inr differ ↦ differ.0
]

-- the next entry of a table goes last
pub copied-more : {T : Type 0} (es : List (ℕ × T)) (i : ℕ) (x : ℕ × T) → IsDistinct nat_eq (keys_of es) → i < length es → get_or es i x ≡ x → insert_entry nat_eq (take i es) x.0 x.1 ≡ take (i + 1) es
unfolding IsDistinct
copied-more [] i x distinct less is = absurd (omega (arith, less))
copied-more (e ∷ es) zero x distinct less is = ap (λ y. y ∷ []) (sym is)
copied-more {T} (e ∷ es) (suc i) x distinct less is =
    let other : nat_eq x.0 e.0 ≡ false = turned_round e.0 x.0 (other_at e.0 es i x distinct.0 (omega (arith, less)) is) in
    let step : suc i + 1 ≡ suc (i + 1) = omega arith in
    ap (λ (b : Bool). cond b ((e.0, x.1) ∷ take i es) (e ∷ insert_entry nat_eq (take i es) x.0 x.1)) other
    ∙ ap (λ (rest : List (ℕ × T)). e ∷ rest) (copied-more es i x distinct.1 (omega (arith, less)) is)
    ∙ ap (λ (k : ℕ). take k (e ∷ es)) (sym step)

pub copied-step : {T : Type 0} (all es before now : List (ℕ × T)) (i n : ℕ) (v w : T) → es ≡ all → IsDistinct nat_eq (keys_of es) → before ≡ take i all → slice_get es i ≡ Some (n, v) → w ≡ v → now ≡ insert_entry nat_eq before n w → now ≡ take (i + 1) all
copied-step {T} all es before now i n v w same distinct was there copy inserts =
    let less : i < length es = slice_get_within es i (n, v) there in
    let read : get_or es i (n, v) ≡ (n, v) = sym (unwrap_or-slice_get es i (n, v)) ∙ ap (λ (o : Option (ℕ × T)). unwrap_or o (n, v)) there in
    inserts
    ∙ ap (λ (x : T). insert_entry nat_eq before n x) copy
    ∙ ap (λ (xs : List (ℕ × T)). insert_entry nat_eq xs n v) (was ∙ ap (take i) (sym same))
    ∙ copied-more es i (n, v) distinct less read
    ∙ ap (take (i + 1)) same
