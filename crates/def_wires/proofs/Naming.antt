-- Names and their numbers.
use Rattle.std.proofs.Common.{drop, get_or, drop-cons, add-one, ◌≡◌, ℕ, suc, zero, ◌+◌, ◌<◌, List, [], ◌∷◌, ◌++◌, length, map, Bool, true, false, cond, not, bytes_eq, position, slice_get, Option, Some, None, refl, sym, ap, ◌∙◌, arith, nat_lt}
use Rattle.std.specs.Prelude.{option_and_then}
use Rattle.std.proofs.lemmas.Slice.Eq.{bytes_eq-Decides}
use Rattle.std.proofs.lemmas.Bool.Decides.{nat_tests}
use Rattle.std.specs.List.{position_or_len, list_any}
use Rattle.def_wires.specs.Names.{or_else, here_if, last_from}

-- the number beside the first of these names that is the word
pub found_at : List ℕ → List (List ℕ) → List ℕ → Option ℕ
found_at word [] places = None
found_at word (n ∷ names) [] = None
found_at word (n ∷ names) (p ∷ places) = cond (bytes_eq word n) (Some p) (found_at word names places)

or_none : (b : Bool) (m : ℕ) → option_and_then (slice_get {X = ℕ} []) (cond b (Some m) None) ≡ None
or_none true m = refl
or_none false m = refl

later_is : (p : ℕ) (places : List ℕ) (b : Bool) (m : ℕ) → option_and_then (slice_get (p ∷ places)) (cond b (Some (suc m)) None) ≡ option_and_then (slice_get places) (cond b (Some m) None)
later_is p places true m = refl
later_is p places false m = refl

later_at : (p : ℕ) (places : List ℕ) (m len : ℕ) → option_and_then (slice_get (p ∷ places)) (cond (nat_lt (1 + m) (suc len)) (Some (1 + m)) None) ≡ option_and_then (slice_get places) (cond (nat_lt m len) (Some m) None)
later_at p places m len =
    let e : 1 + m ≡ suc m = omega arith in
    let test : nat_lt (suc m) (suc len) ≡ nat_lt m len = grind (arith, nat_tests) in
    rw (e, test) (later_is p places (nat_lt m len) m)

first_at : (p : ℕ) (places : List ℕ) (len : ℕ) → option_and_then (slice_get (p ∷ places)) (cond (nat_lt 0 (suc len)) (Some 0) None) ≡ Some p
first_at p places len =
    let test : nat_lt 0 (suc len) ≡ true = grind (arith, nat_tests) in
    rw test refl

pub find_is : (word : List ℕ) (names : List (List ℕ)) (places : List ℕ) → option_and_then (slice_get places) (position (bytes_eq word) names) ≡ found_at word names places
unfolding found_at
find_is word [] places = refl
find_is word (n ∷ names) [] = or_none (nat_lt (position_or_len (bytes_eq word) (n ∷ names)) (suc (length names))) (position_or_len (bytes_eq word) (n ∷ names))
find_is word (n ∷ names) (p ∷ places) = by_case (bytes_eq word n) refl (find_is word names places)
  where
    by_case : (b : Bool) → bytes_eq word n ≡ b → option_and_then (slice_get places) (position (bytes_eq word) names) ≡ found_at word names places → option_and_then (slice_get (p ∷ places)) (position (bytes_eq word) (n ∷ names)) ≡ found_at word (n ∷ names) (p ∷ places)
    by_case true e ih = rw e (first_at p places (length names))
    by_case false e ih = rw e (later_at p places (position_or_len (bytes_eq word) names) (length names) ∙ ih)

-- one more name at the end
pub found_push : (word : List ℕ) (names : List (List ℕ)) (places : List ℕ) (n : List ℕ) (p : ℕ) → length names ≡ length places → found_at word (names ++ n ∷ []) (places ++ p ∷ []) ≡ or_else (found_at word names places) (here_if word n p)
unfolding found_at
found_push word [] [] n p h = refl
found_push word [] (q ∷ places) n p h = absurd cc
found_push word (m ∷ names) [] n p h = absurd cc
found_push word (m ∷ names) (q ∷ places) n p h = by_case (bytes_eq word m) refl (found_push word names places n p (omega arith))
  where
    by_case : (b : Bool) → bytes_eq word m ≡ b → found_at word (names ++ n ∷ []) (places ++ p ∷ []) ≡ or_else (found_at word names places) (here_if word n p) → found_at word ((m ∷ names) ++ n ∷ []) ((q ∷ places) ++ p ∷ []) ≡ or_else (found_at word (m ∷ names) (q ∷ places)) (here_if word n p)
    by_case true e ih = rw e refl
    by_case false e ih = rw e ih

or_nothing : (o : Option ℕ) → or_else o None ≡ o
or_nothing None = refl
or_nothing (Some k) = refl

-- a name that is there
pub found_again : (word : List ℕ) (names : List (List ℕ)) (places : List ℕ) (n : List ℕ) (p : ℕ) → length names ≡ length places → list_any (bytes_eq n) names ≡ true → or_else (found_at word names places) (here_if word n p) ≡ found_at word names places
unfolding found_at
found_again word [] places n p h any = absurd cc
found_again word (m ∷ names) [] n p h any = absurd cc
found_again word (m ∷ names) (q ∷ places) n p h any = by_case (bytes_eq word m) refl (bytes_eq n m) refl (λ more. found_again word names places n p (omega arith) more)
  where
    by_case : (b : Bool) → bytes_eq word m ≡ b → (d : Bool) → bytes_eq n m ≡ d → (list_any (bytes_eq n) names ≡ true → or_else (found_at word names places) (here_if word n p) ≡ found_at word names places) → or_else (found_at word (m ∷ names) (q ∷ places)) (here_if word n p) ≡ found_at word (m ∷ names) (q ∷ places)
    by_case true e d f ih = rw e refl
    by_case false e true f ih =
        let same : n ≡ m = (bytes_eq-Decides n m).0 f in
        let other : bytes_eq word n ≡ false = rw same e in
        rw (e, other) (or_nothing (found_at word names places))
    by_case false e false f ih = rw e (ih (rw f at any))

here_is : (word name : List ℕ) (k v : ℕ) (b : Bool) → bytes_eq word name ≡ b → here_if word name k ≡ Some v → v ≡ k
here_is word name k v true e q = let r : here_if word name k ≡ Some k = rw e refl in cc
here_is word name k v false e q = let r : here_if word name k ≡ None = rw e refl in absurd cc

last_step : (o d : Option ℕ) (v : ℕ) → or_else o d ≡ Some v → (k len : ℕ) → (o ≡ Some v → v < k + len) → (d ≡ Some v → v < k + len) → v < k + len
last_step None d v h k len f g = g h
last_step (Some u) d v h k len f g = f h

pub last_within : (word : List ℕ) (k : ℕ) (names : List (List ℕ)) (v : ℕ) → last_from word k names ≡ Some v → v < k + length names
last_within word k [] v h = absurd cc
last_within word k (n ∷ names) v h =
    last_step (last_from word (k + 1) names) (here_if word n k) v h k (length (n ∷ names))
    (λ q. let less = last_within word (k + 1) names v q in omega (arith, less))
    (λ q. let same = here_is word n k v (bytes_eq word n) refl q in omega (arith, same))

pub not_false : (b : Bool) → not b ≡ false → b ≡ true
not_false true h = refl
not_false false h = absurd cc

-- one more item before those that were taken
pub last_before : {A : Type 0} (name : A → List ℕ) (xs : List A) (k j : ℕ) (x : A) (word : List ℕ) → k < length xs → j ≡ k + 1 → x ≡ get_or xs k x → last_from word k (map name (drop k xs)) ≡ or_else (last_from word j (map name (drop j xs))) (here_if word (name x) k)
last_before name xs k j x word lt next is =
    let cons : drop k xs ≡ x ∷ drop (k + 1) xs = rw (add-one, drop-cons xs k x, ← is) refl in
    rw (next, cons) refl
