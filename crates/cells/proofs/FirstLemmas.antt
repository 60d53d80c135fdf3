-- Numbers of names, as names come one after the other.
use Rattle.std.proofs.Common.{◌≡◌, ℕ, zero, suc, ◌+◌, ◌<◌, List, [], ◌∷◌, ◌++◌, Bool, true, false, ◌||◌, cond, length, get_or, take, Option, Some, None, slice_get, option_and_then, position, is_some, bytes_eq, refl, sym, ap, ◌∙◌, inl, inr, arith}
use Rattle.std.specs.List.{list_any}
use Rattle.std.specs.Option.{option_or}
use Rattle.std.proofs.lemmas.Bool.{cases_Bool}
use Rattle.std.proofs.lemmas.List.{length-take-le}
use Rattle.std.proofs.lemmas.List.Quantifiers.{position-Some}
use Rattle.rt_words.proofs.Words.{same}
use Rattle.cells.specs.declared.firsts.Firsts.{Firsts}
use Rattle.cells.specs.Firsts.{ArePaired, first_in, ArePlaces}
use Rattle.cells.proofs.Lists.{is_some-position, position-push, next}

-- the number beside a name
abbrev pub beside : {N : Type 0} → List N → List (List ℕ) → List ℕ → Option N
beside numbers names q = option_and_then (slice_get numbers) (position (bytes_eq q) names)

slice_get-push_left : {X : Type 0} → (xs : List X) (x : X) (k : ℕ) → k < length xs → slice_get (xs ++ x ∷ []) k ≡ slice_get xs k
slice_get-push_left [] x k lt = absurd (omega arith)
slice_get-push_left (y ∷ ys) x zero lt = refl
slice_get-push_left (y ∷ ys) x (suc k) lt = slice_get-push_left ys x k (omega arith)

slice_get-push_last : {X : Type 0} → (xs : List X) (x : X) (k : ℕ) → k ≡ length xs → slice_get (xs ++ x ∷ []) k ≡ Some x
slice_get-push_last [] x k e = rw e refl
slice_get-push_last (y ∷ ys) x k e = rw e (slice_get-push_last ys x (length ys) refl)

-- a place that is found lies within
position_within : {X : Type 0} → (p : X → Bool) (xs : List X) (d : X) (k : ℕ) → position p xs ≡ Some k → k < length xs
position_within p xs d k h = (position-Some p xs k d h).0

-- there is an item at a place within
pub here : {X : Type 0} → (xs : List X) (k : ℕ) → k < length xs → (x : X) × (slice_get xs k ≡ Some x)
here [] k lt = absurd (omega arith)
here (x ∷ xs) zero lt = (x, refl)
here (x ∷ xs) (suc k) lt = here xs k (omega arith)

-- a new name with a number beside it
pub claim_new : {N : Type 0} → (numbers : List N) (names : List (List ℕ)) (name : List ℕ) (n : N) (q : List ℕ) → length names ≡ length numbers → beside (numbers ++ n ∷ []) (names ++ name ∷ []) q ≡ option_or (beside numbers names q) (cond (bytes_eq q name) (Some n) None)
claim_new {N} numbers names name n q paired =
    ap (λ (o : Option ℕ). option_and_then (slice_get (numbers ++ n ∷ [])) o) (position-push (bytes_eq q) names name)
    ∙ by_place (position (bytes_eq q) names) (bytes_eq q name) (position_within (bytes_eq q) names [])
  where
    by_place : (o : Option ℕ) (b : Bool) → ((k : ℕ) → o ≡ Some k → k < length names) → option_and_then (slice_get (numbers ++ n ∷ [])) (option_or o (cond b (Some (length names)) None)) ≡ option_or (option_and_then (slice_get numbers) o) (cond b (Some n) None)
    by_place (Some k) b within =
        let lt : k < length numbers = omega (arith, within k refl, paired) in
        let h = here numbers k lt in
        slice_get-push_left numbers n k lt ∙ h.1 ∙ sym (ap (λ (o : Option N). option_or o (cond b (Some n) None)) h.1)
    by_place None true within = slice_get-push_last numbers n (length names) paired
    by_place None false within = refl

-- a name that is there already
pub claim_old : {N : Type 0} → (numbers : List N) (names : List (List ℕ)) (name : List ℕ) (n : N) (q : List ℕ) → length names ≡ length numbers → list_any (bytes_eq name) names ≡ true → beside numbers names q ≡ option_or (beside numbers names q) (cond (bytes_eq q name) (Some n) None)
claim_old {N} numbers names name n q paired there =
    elim (cases_Bool (bytes_eq q name)) [
      | inl hit ↦
          let e : q ≡ name = same q name hit in
          let some : is_some (position (bytes_eq q) names) ≡ true = is_some-position (bytes_eq q) names ∙ (rw e there) in
          rw hit (by_place (position (bytes_eq q) names) some (position_within (bytes_eq q) names []))
      | inr miss ↦ rw miss (or_none (beside numbers names q))
    ]
  where
    or_none : (o : Option N) → o ≡ option_or o None
    or_none None = refl
    or_none (Some x) = refl

    by_place : (o : Option ℕ) → is_some o ≡ true → ((k : ℕ) → o ≡ Some k → k < length names) → option_and_then (slice_get numbers) o ≡ option_or (option_and_then (slice_get numbers) o) (Some n)
    by_place (Some k) some within =
        let lt : k < length numbers = omega (arith, within k refl, paired) in
        let h = here numbers k lt in
        h.1 ∙ sym (ap (λ (o : Option N). option_or o (Some n)) h.1)
    by_place None some within = cc

-- the first place among one item more
pub place_more : {X : Type 0} → (p : X → Bool) (xs : List X) (i : ℕ) (x : X) → i < length xs → x ≡ get_or xs i x → position p (take (i + 1) xs) ≡ option_or (position p (take i xs)) (cond (p x) (Some i) None)
place_more {X} p xs i x within at =
    ap (position p) (next xs i x within at)
    ∙ position-push p (take i xs) x
    ∙ ap (λ (k : ℕ). option_or (position p (take i xs)) (cond (p x) (Some k) None)) (length-take-le i xs (omega arith))

-- a number twice is a number once
pub claimed_twice : {N : Type 0} → (o : Option N) (a b : Bool) (n : N) → option_or (option_or o (cond a (Some n) None)) (cond b (Some n) None) ≡ option_or o (cond (a || b) (Some n) None)
claimed_twice (Some m) a b n = refl
claimed_twice None true b n = refl
claimed_twice None false b n = refl

-- an item's name is claimed for its place
pub claims_more : {X : Type 0} → (name : X → List ℕ) (items : List X) (i : ℕ) (x : X) (old new : Firsts ℕ) (bytes : List ℕ) → i < length items → x ≡ get_or items i x → bytes ≡ name x → ArePlaces name (take i items) old → ArePaired new → ((q : List ℕ) → first_in new q ≡ option_or (first_in old q) (cond (bytes_eq q bytes) (Some i) None)) → ArePlaces name (take (i + 1) items) new
claims_more name items i x old new bytes within at same h paired claimed = record {
  paired = paired;
  places = λ q.
      claimed q
      ∙ ap (λ (b : List ℕ). option_or (first_in old q) (cond (bytes_eq q b) (Some i) None)) same
      ∙ ap (λ (o : Option ℕ). option_or o (cond (bytes_eq q (name x)) (Some i) None)) (h.places q)
      ∙ sym (place_more (λ y. bytes_eq q (name y)) items i x within at);
}
