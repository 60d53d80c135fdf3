-- Lists that fit item by item.
use Rattle.std.proofs.Common.{◌≡◌, ℕ, suc, List, [], ◌∷◌, ◌++◌, length, Option, Some, None, refl, ap}
use Rattle.same_words.specs.Values.{Pairwise, OptionBy}
use Rattle.def_text.specs.Special.{with_range}

pub pairwise_one_more : {A B : Type 0} (R : A → B → Type 0) (xs : List A) (ys : List B) (a : A) (b : B) → Pairwise R xs ys → R a b → Pairwise R (xs ++ a ∷ []) (ys ++ b ∷ [])
pairwise_one_more R [] [] a b h r = (r, tt)
pairwise_one_more R [] (y ∷ ys) a b h r = absurd h
pairwise_one_more R (x ∷ xs) [] a b h r = absurd h
pairwise_one_more R (x ∷ xs) (y ∷ ys) a b h r = (h.0, pairwise_one_more R xs ys a b h.1 r)

pub pairwise_length : {A B : Type 0} (R : A → B → Type 0) (xs : List A) (ys : List B) → Pairwise R xs ys → length ys ≡ length xs
pairwise_length R [] [] h = refl
pairwise_length R [] (y ∷ ys) h = absurd h
pairwise_length R (x ∷ xs) [] h = absurd h
pairwise_length R (x ∷ xs) (y ∷ ys) h = ap suc (pairwise_length R xs ys h.1)

pub with_range_again : (R : ℕ × ℕ → ℕ × ℕ → Type 0) (xs ys : List (ℕ × ℕ)) (o p : Option (ℕ × ℕ)) → Pairwise R xs ys → OptionBy R o p → Pairwise R (with_range xs o) (with_range ys p)
with_range_again R xs ys None None h r = h
with_range_again R xs ys None (Some b) h r = absurd r
with_range_again R xs ys (Some a) None h r = absurd r
with_range_again R xs ys (Some a) (Some b) h r = pairwise_one_more R xs ys a b h r
