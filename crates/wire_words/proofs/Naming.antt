-- What a name of several stands for: the last one that has it.
use Rattle.std.proofs.Common.{◌≡◌, ◌≢◌, ◌∙◌, ℕ, zero, suc, ◌+◌, true, false, List, [], ◌∷◌, ◌++◌, map, Option, Some, None, bytes_eq, refl, sym, ap, arith, slice_get, All, AllPairs}
use Rattle.std.specs.Option.{option_map_or}
use Rattle.std.proofs.lemmas.List.Elements.{All-head, All-tail}
use Rattle.rt_words.proofs.Words.{equal, unequal}
use Rattle.def_wires.specs.Names.{or_else, here_if, last_from}

-- ---- elements by their numbers

pub mapped_at : {X Y : Type 0} (f : X → Y) (xs : List X) (k : ℕ) (x : X) → slice_get xs k ≡ Some x → slice_get (map f xs) k ≡ Some (f x)
mapped_at f [] k x e = absurd cc
mapped_at f (y ∷ xs) zero x e = let same : y ≡ x = cc in ap (λ z. Some (f z)) same
mapped_at f (y ∷ xs) (suc k) x e = mapped_at f xs k x e

pub mapped_from : {X Y : Type 0} (f : X → Y) (xs : List X) (k : ℕ) (y d : Y) → slice_get (map f xs) k ≡ Some y → option_map_or f (slice_get xs k) d ≡ y
mapped_from f [] k y d e = absurd cc
mapped_from f (x ∷ xs) zero y d e = cc
mapped_from f (x ∷ xs) (suc k) y d e = mapped_from f xs k y d e

pub in_front : {X : Type 0} (xs ys : List X) (k : ℕ) (x : X) → slice_get xs k ≡ Some x → slice_get (xs ++ ys) k ≡ Some x
in_front [] ys k x e = absurd cc
in_front (y ∷ xs) ys zero x e = e
in_front (y ∷ xs) ys (suc k) x e = in_front xs ys k x e

-- ---- names

pub none_named : (word : List ℕ) (k : ℕ) (names : List (List ℕ)) → All (λ v. v ≢ word) names → last_from word k names ≡ None
none_named word k [] none = refl
none_named word k (n ∷ names) none =
    let here : bytes_eq word n ≡ false = unequal word n (λ e. All-head (λ v. v ≢ word) n names none (sym e)) in
    rw (none_named word (k + 1) names (All-tail (λ v. v ≢ word) n names none), here) refl

pub last_named : (word : List ℕ) (k i m : ℕ) (names : List (List ℕ)) → m ≡ k + i → AllPairs (λ a b. a ≢ b) names → slice_get names i ≡ Some word → last_from word k names ≡ Some m
last_named word k i m [] at apart e = absurd cc
last_named word k zero m (n ∷ names) at apart e =
    let same : n ≡ word = cc in
    let here : bytes_eq word n ≡ true = equal word n (sym same) in
    let later : All (λ v. v ≢ word) names = λ j d lt e'. apart zero (suc j) d (omega arith) (omega arith) (same ∙ sym e') in
    let number : k ≡ m = omega arith in
    rw (none_named word (k + 1) names later, here) (ap (λ (x : ℕ). Some x) number)
last_named word k (suc i) m (n ∷ names) at apart e =
    let later : AllPairs (λ a b. a ≢ b) names = λ u v d lt within. apart (suc u) (suc v) d (omega arith) (omega arith) in
    rw (last_named word (k + 1) i m names (omega arith) later e) refl

-- further names behind these
pub last_before : (word : List ℕ) (k : ℕ) (names further : List (List ℕ)) → All (λ v. v ≢ word) further → last_from word k (names ++ further) ≡ last_from word k names
last_before word k [] further none = none_named word k further none
last_before word k (n ∷ names) further none = ap (λ (o : Option ℕ). or_else o (here_if word n k)) (last_before word (k + 1) names further none)
