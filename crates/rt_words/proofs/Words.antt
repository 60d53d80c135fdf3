use Rattle.std.proofs.Common.{◌≡◌, ◌≢◌, ℕ, ◌+◌, ◌<◌, ◌≤◌, zero, suc, Bool, true, false, ◌&&◌, not, List, [], ◌∷◌, length, get_or, take, drop, ◌-◌, refl, sym, ap, subst, ◌∙◌, arith, Option, Some, None, inl, inr, cond}
use Rattle.std.specs.Prelude.{bytes_eq, All, Contains, slice_get, ◌==◌}
use Rattle.std.specs.List.{list_any, position_from}
use Rattle.std.proofs.lemmas.Slice.Eq.{bytes_eq-Decides}
use Rattle.std.proofs.lemmas.Bool.{and_parts, not-true, cases_Bool, both_ways, eq-eqb, ne_eqb}
use Rattle.std.proofs.lemmas.Bool.Decides.{not_from_Decides}
use Rattle.std.proofs.lemmas.List.Kept.{AllPairs-cons}
use Rattle.std.proofs.lemmas.List.Folds.{list_any_none}
use Rattle.std.proofs.lemmas.List.{take_all}
use Rattle.std.proofs.lemmas.Option.{slice_get_within, get_or_from_slice_get, slice_get-get_or}
use Rattle.rt_words.specs.Table.{word_of, words_of, AreDistinct, are_distinct, is_row, Compares}

pub same : (v w : List ℕ) → bytes_eq v w ≡ true → v ≡ w
same v w e = (bytes_eq-Decides v w).0 e

pub differ : (v w : List ℕ) → bytes_eq v w ≡ false → v ≢ w
differ v w e = not_from_Decides (bytes_eq v w) (bytes_eq-Decides v w) e

pub equal : (v w : List ℕ) → v ≡ w → bytes_eq v w ≡ true
equal v w e = (bytes_eq-Decides v w).1 e

pub unequal : (v w : List ℕ) → v ≢ w → bytes_eq v w ≡ false
unequal v w ne =
    elim (cases_Bool (bytes_eq v w)) [
      | inl hit ↦ absurd (ne (same v w hit))
      | inr miss ↦ miss
    ]

-- the test of a word against those after it

pub none_equal : (w : List ℕ) (ws : List (List ℕ)) → list_any (bytes_eq w) ws ≡ false → All (λ v. w ≢ v) ws
none_equal w [] none i d lt = absurd (omega arith)
none_equal w (v ∷ ws) none zero d lt =
    elim (cases_Bool (bytes_eq w v)) [
      | inl hit ↦ absurd (both_ways _ none (rw hit refl))
      | inr miss ↦ differ w v miss
    ]
none_equal w (v ∷ ws) none (suc i) d lt =
    elim (cases_Bool (bytes_eq w v)) [
      | inl hit ↦ absurd (both_ways _ none (rw hit refl))
      | inr miss ↦ none_equal w ws (rw miss at none) i d (omega arith)
    ]

pub are_distinct_fact : (ws : List (List ℕ)) → are_distinct ws ≡ true → AreDistinct ws
are_distinct_fact [] apart = λ i j d lt within. absurd (omega arith)
are_distinct_fact (w ∷ ws) apart =
    let p = and_parts (not (list_any (bytes_eq w) ws)) (are_distinct ws) apart in
    AllPairs-cons (λ v u. v ≢ u) w ws (none_equal w ws (not-true _ p.0)) (are_distinct_fact ws p.1)

pub are_distinct_test : (ws : List (List ℕ)) → AreDistinct ws → are_distinct ws ≡ true
are_distinct_test [] h = refl
are_distinct_test (w ∷ ws) h =
    let tail : AreDistinct ws = λ i j d lt within. h (suc i) (suc j) d (omega arith) (omega arith) in
    let head : All (λ v. bytes_eq w v ≡ false) ws = λ k d within. unequal w _ (h zero (suc k) d (omega arith) (omega arith)) in
    let none = list_any_none (bytes_eq w) ws head in
    rw (none, are_distinct_test ws tail) refl

-- the place of a word

pub place_after : (word : List ℕ) (k n : ℕ) (ws : List (List ℕ)) → position_from (bytes_eq word) k ws ≡ Some n → k ≤ n
place_after word k n [] e = absurd (cc)
place_after word k n (w ∷ ws) e =
    elim (cases_Bool (bytes_eq word w)) [
      | inl hit ↦ let s : Some k ≡ Some n = rw hit at e in let t : k ≡ n = cc in omega arith
      | inr miss ↦ let r = place_after word (k + 1) n ws (rw miss at e) in omega arith
    ]

pub found_word : (word : List ℕ) (k n m : ℕ) (ws : List (List ℕ)) → m ≡ k + n → position_from (bytes_eq word) k ws ≡ Some m → slice_get ws n ≡ Some word
found_word word k n m [] at e = absurd (cc)
found_word word k zero m (w ∷ ws) at e =
    elim (cases_Bool (bytes_eq word w)) [
      | inl hit ↦ ap (λ (v : List ℕ). Some v) (sym (same word w hit))
      | inr miss ↦ let after = place_after word (k + 1) m ws (rw miss at e) in absurd (omega arith)
    ]
found_word word k (suc n) m (w ∷ ws) at e =
    elim (cases_Bool (bytes_eq word w)) [
      | inl hit ↦ let s : Some k ≡ Some m = rw hit at e in let t : k ≡ m = cc in absurd (omega arith)
      | inr miss ↦ found_word word (k + 1) n m ws (omega arith) (rw miss at e)
    ]

pub word_found : (word : List ℕ) (k n m : ℕ) (ws : List (List ℕ)) → m ≡ k + n → are_distinct ws ≡ true → slice_get ws n ≡ Some word → position_from (bytes_eq word) k ws ≡ Some m
word_found word k n m [] at apart e = absurd (cc)
word_found word k zero m (w ∷ ws) at apart e =
    let is : w ≡ word = cc in
    let here : k ≡ m = omega arith in
    rw (equal word w (sym is)) (ap (λ (n : ℕ). Some n) here)
word_found word k (suc n) m (w ∷ ws) at apart e =
    let p = and_parts (not (list_any (bytes_eq w) ws)) (are_distinct ws) apart in
    let within = slice_get_within ws n word e in
    let later : w ≢ word = subst (λ (v : List ℕ). w ≢ v) (get_or_from_slice_get ws n word [] e) (none_equal w ws (not-true _ p.0) n [] within) in
    rw (unequal word w (λ same. later (sym same))) (word_found word (k + 1) n m ws (omega arith) p.1 e)

pub contained_at : (word : List ℕ) (ws : List (List ℕ)) (n : ℕ) → slice_get ws n ≡ Some word → Contains ws word
contained_at word ws n e = (n, slice_get_within ws n word e, get_or_from_slice_get ws n word word e)

pub contained : (word : List ℕ) (ws : List (List ℕ)) → Contains ws word → (n : ℕ) × (slice_get ws n ≡ Some word)
contained word ws h = (h.0, slice_get-get_or ws h.0 word h.1 ∙ ap (λ (v : List ℕ). Some v) h.2)

pub none_found : (word : List ℕ) (ws : List (List ℕ)) (r : Option ℕ) → r ≡ position_from (bytes_eq word) 0 ws → ¬ Contains ws word → r ≡ None
none_found word ws None e none = refl
none_found word ws (Some n) e none = absurd (none (contained_at word ws n (found_word word 0 n n ws (omega arith) (sym e))))

-- how each word compares

others : (word : List ℕ) (k j : ℕ) (ws : List (List ℕ)) → k < j → All (λ v. word ≢ v) ws → Compares word j ws (Some k)
others word k j [] lt none = tt
others word k j (w ∷ ws) lt none =
    let here : bytes_eq word w ≡ false = unequal word w (none zero w (omega arith)) in
    let there : (k == j) ≡ false = ne_eqb k j (λ e. omega arith) in
    (here ∙ sym there, others word k (j + 1) ws (omega arith) (λ i d within. none (suc i) d (omega arith)))

not_yet : (word : List ℕ) (k : ℕ) (ws : List (List ℕ)) (r : Option ℕ) → r ≡ position_from (bytes_eq word) (k + 1) ws → is_row k r ≡ false
not_yet word k ws None e = refl
not_yet word k ws (Some n) e = let after = place_after word (k + 1) n ws (sym e) in ne_eqb n k (λ same. omega arith)

pub compares : (word : List ℕ) (k : ℕ) (ws : List (List ℕ)) → are_distinct ws ≡ true → Compares word k ws (position_from (bytes_eq word) k ws)
compares word k [] apart = tt
compares word k (w ∷ ws) apart =
    let p = and_parts (not (list_any (bytes_eq w) ws)) (are_distinct ws) apart in
    elim (cases_Bool (bytes_eq word w)) [
      | inl hit ↦
          let none = subst (λ (v : List ℕ). All (λ u. v ≢ u) ws) (sym (same word w hit)) (none_equal w ws (not-true _ p.0)) in
          let rest = others word k (k + 1) ws (omega arith) none in
          let here : (k == k) ≡ true = eq-eqb k k refl in
          rw hit (sym here, rest)
      | inr miss ↦
          let here = not_yet word k ws (position_from (bytes_eq word) (k + 1) ws) refl in
          rw miss (sym here, compares word (k + 1) ws p.1)
    ]

-- the rows of a table and their words

pub place_of_word : (word : List ℕ) (k : ℕ) (rows : List (List ℕ)) → position_from (λ row. bytes_eq word (word_of row)) k rows ≡ position_from (bytes_eq word) k (words_of rows)
place_of_word word k [] = refl
place_of_word word k (row ∷ rows) = ap (λ (r : Option ℕ). cond (bytes_eq word (word_of row)) (Some k) r) (place_of_word word (k + 1) rows)

pub any_word : (word : List ℕ) (rows : List (List ℕ)) → list_any (λ row. bytes_eq word (word_of row)) rows ≡ list_any (bytes_eq word) (words_of rows)
any_word word [] = refl
any_word word (row ∷ rows) = rw (any_word word rows) refl

pub distinct_first : (rows : List (List ℕ)) (first : List ℕ) (any : Bool) → 1 ≤ length rows → first ≡ word_of (get_or rows 0 []) → any ≡ list_any (λ row. bytes_eq first (word_of row)) (take (length rows - 1) (drop 1 rows)) → are_distinct (words_of rows) ≡ (not any && are_distinct (words_of (take (length rows - 1) (drop 1 rows))))
distinct_first [] first any some word has = absurd (omega arith)
distinct_first (row ∷ rows) first any some word has =
    let all : take (length (row ∷ rows) - 1) rows ≡ rows = take_all (length (row ∷ rows) - 1) rows (omega arith) in
    let same : any ≡ list_any (bytes_eq (word_of row)) (words_of rows) = (rw (word, all) at has) ∙ any_word (word_of row) rows in
    rw (same, all) refl
