-- One more at a place of a list of counts, and their sum.
use Rattle.std.proofs.Common.{◌^◌, ◌≡◌, ℕ, zero, suc, ◌+◌, ◌<◌, ◌≤◌, List, [], ◌∷◌, ◌++◌, length, slice_set, slice_index_or, refl, ap, ◌∙◌, arith}
use Rattle.std.specs.Prelude.{Result, Ok, Err, OnOk}
use Rattle.rt_forms.specs.Lexeme.{Lexeme}
use Rattle.lef_text.specs.declared.error.LefError.{LefError}
use Rattle.lef_text.specs.declared.library.Library.{Library}
use Rattle.lef_text.specs.declared.library.LayerLines.{LayerLines}
use Rattle.lef_text.specs.Layers.{with_layer}
use Rattle.lef_text.specs.Shapes.{counted_at}
use Rattle.lef_text.specs.Counts.{total_skipped, skips}
use Rattle.lef_text.specs.Lef.{empty}

abbrev Counts : Type 0
Counts = List (List ℕ × ℕ)

pub counted_past : (k : ℕ) (xs : Counts) → length xs ≤ k → counted_at k xs ≡ xs
counted_past zero [] h = refl
counted_past (suc k) [] h = refl
counted_past zero (x ∷ xs) h = absurd (omega arith)
counted_past (suc k) (x ∷ xs) h = ap (λ (ys : Counts). x ∷ ys) (counted_past k xs (omega arith))

pub counted_set : (k : ℕ) (xs : Counts) (x : List ℕ × ℕ) → k < length xs → x ≡ slice_index_or xs k x → slice_set xs k (x.0, x.1 + 1) ≡ counted_at k xs
counted_set zero [] x h e = absurd (omega arith)
counted_set (suc k) [] x h e = absurd (omega arith)
counted_set zero (y ∷ ys) x h e = ap (λ (z : List ℕ × ℕ). (z.0, z.1 + 1) ∷ ys) e
counted_set (suc k) (y ∷ ys) x h e = ap (λ (zs : Counts). y ∷ zs) (counted_set k ys x (omega arith) e)

-- ---- the sum of counts

total-cons : (x : List ℕ × ℕ) (xs : Counts) → total_skipped (x ∷ xs) ≡ x.1 + total_skipped xs
unfolding total_skipped
total-cons x xs = refl

total-nil : total_skipped [] ≡ 0
unfolding total_skipped
total-nil = refl

pub total_counted : (k : ℕ) (xs : Counts) → total_skipped (counted_at k xs) ≤ total_skipped xs + 1
total_counted zero [] = omega arith
total_counted (suc k) [] = omega arith
total_counted zero (x ∷ xs) =
    let more : total_skipped (counted_at zero (x ∷ xs)) ≡ (x.1 + 1) + total_skipped xs = total-cons (x.0, x.1 + 1) xs in
    omega (arith, more, total-cons x xs)
total_counted (suc k) (x ∷ xs) =
    let more : total_skipped (counted_at (suc k) (x ∷ xs)) ≡ x.1 + total_skipped (counted_at k xs) = total-cons x (counted_at k xs) in
    omega (arith, more, total-cons x xs, total_counted k xs)

pub total_push : (xs : Counts) (name : List ℕ) (n : ℕ) → total_skipped (xs ++ (name, n) ∷ []) ≡ total_skipped xs + n
total_push [] name n =
    let one : total_skipped ([] ++ (name, n) ∷ []) ≡ n + total_skipped [] = total-cons (name, n) [] in
    omega (arith, one)
total_push (x ∷ xs) name n =
    let more : total_skipped ((x ∷ xs) ++ (name, n) ∷ []) ≡ x.1 + total_skipped (xs ++ (name, n) ∷ []) = total-cons x (xs ++ (name, n) ∷ []) in
    omega (arith, more, total-cons x xs, total_push xs name n)

-- each count is at most the sum
in_total : (k : ℕ) (xs : Counts) (x : List ℕ × ℕ) → k < length xs → x ≡ slice_index_or xs k x → x.1 ≤ total_skipped xs
in_total zero [] x h e = absurd (omega arith)
in_total (suc k) [] x h e = absurd (omega arith)
in_total zero (y ∷ ys) x h e =
    let same : x.1 ≡ y.1 = ap (λ (z : List ℕ × ℕ). z.1) e in
    omega (arith, same, total-cons y ys)
in_total (suc k) (y ∷ ys) x h e = omega (arith, in_total k ys x (omega arith) e, total-cons y ys)

pub count_fits : (k : ℕ) (xs ys : Counts) (x : List ℕ × ℕ) → xs ≡ ys → k < length ys → x ≡ slice_index_or xs k x → total_skipped ys + 1 < 2 ^ 32 → x.1 + 1 < 2 ^ 32
count_fits k xs ys x same lt e few =
    let lt' : k < length xs = rw same lt in
    omega (arith, in_total k xs x lt' e, ap total_skipped same, few)

-- with one more layer
pub few_layer : (r : Result (Unit {0}) LefError) (lib new : Library) (lines : LayerLines) (old words : List Lexeme) → OnOk r (new ≡ with_layer lib lines) → lines.skipped + length words ≤ length old → OnOk r (skips new words ≤ skips lib old)
few_layer (Ok x) lib new lines old words same few = omega (arith, ap (λ (l : Library). total_skipped l.skipped) same, total_push lib.skipped lines.name lines.skipped, few)
few_layer (Err e) lib new lines old words same few = tt

pub few_begins : (words : List Lexeme) → length words ≤ 2 ^ 32 → skips empty words ≤ 2 ^ 32
few_begins words h = omega (arith, h, total-nil)

pub counted_answer : (k : ℕ) (xs ys : Counts) (x : List ℕ × ℕ) (n : ℕ) → xs ≡ ys → k < length ys → x ≡ slice_index_or xs k x → n ≡ x.1 + 1 → slice_set xs k (x.0, n) ≡ counted_at k ys
counted_answer k xs ys x n same lt e more =
    let lt' : k < length xs = rw same lt in
    ap (λ (m : ℕ). slice_set xs k (x.0, m)) more ∙ counted_set k xs x lt' e ∙ ap (λ (zs : Counts). counted_at k zs) same
