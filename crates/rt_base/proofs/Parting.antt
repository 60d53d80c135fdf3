-- Cutting a text into parts from the left: each part is determined by what stands there.
use Rattle.std.proofs.Common.{◌≡◌, ◌≤◌, ◌<◌, ℕ, zero, suc, ◌+◌, ◌==◌, Bool, true, false, not, ◌||◌, List, [], ◌∷◌, ◌++◌, length, take, drop, Option, Some, None, count_by, if◌then◌else◌, refl, sym, ap, inl, inr, ◌∙◌, append_assoc, arith}
use Rattle.std.proofs.lemmas.Grind.{common_steps}
use Rattle.std.proofs.lemmas.List.{take-append-drop, append-nil}
use Rattle.std.proofs.lemmas.List.Folds.{length-prefix_len, list_any-append}
use Rattle.std.proofs.lemmas.List.Sums.{sum_by-append}
use Rattle.std.proofs.lemmas.List.Prefix.{front_rest}
use Rattle.std.proofs.Math.Seq.{take-append_seam, drop-append_seam, take-length}
use Rattle.std.proofs.Math.Numerals.{one-add}
use Rattle.std.proofs.lemmas.List.Sums.{prefix_len-le-length}
use Rattle.std.proofs.lemmas.Bool.{cases_lt}
use Rattle.std.proofs.lemmas.Bool.Decides.{nat_tests}
use Rattle.std.specs.Prelude.{unwrap_or}
use Rattle.std.specs.List.{list_any, position, position_or_len}
use Rattle.rt_base.specs.declared.token.Token.{Token}
use Rattle.rt_base.specs.Parts.{is_blank, is_feed, is_quote, Part, Blank, Comment, Quoted, Plain, spelled, spelling, Begins, Fits, AllFit, is_token, line_after, token_after, tokens_after}

-- no element before the first that passes does
pub none_before : (p : ℕ → Bool) (xs : List ℕ) → list_any p (take (position_or_len p xs) xs) ≡ false
none_before p [] = refl
none_before p (x ∷ xs) = at (p x) refl (none_before p xs)
  where
    at : (b : Bool) → p x ≡ b → list_any p (take (position_or_len p xs) xs) ≡ false → list_any p (take (position_or_len p (x ∷ xs)) (x ∷ xs)) ≡ false
    at true e more = rw e refl
    at false e more = rw (e, one-add) (rw (e, more) refl)

-- the list ends where none passes, and goes on with the first that does
pub begins_at : (p : ℕ → Bool) (xs : List ℕ) → Begins p (drop (position_or_len p xs) xs)
begins_at p [] = tt
begins_at p (x ∷ xs) = at (p x) refl (begins_at p xs)
  where
    at : (b : Bool) → p x ≡ b → Begins p (drop (position_or_len p xs) xs) → Begins p (drop (position_or_len p (x ∷ xs)) (x ∷ xs))
    at true e more = rw e e
    at false e more = rw e (rw one-add more)

pub first_or_len : (p : ℕ → Bool) (xs : List ℕ) → unwrap_or (position p xs) (length xs) ≡ position_or_len p xs
first_or_len p xs =
    let within : position_or_len p xs ≤ length xs = prefix_len-le-length (λ (x : ℕ). not (p x)) xs in
    elim (cases_lt (position_or_len p xs) (length xs)) [
      | inl less ↦ grind (arith, nat_tests)
      | inr past ↦ grind (arith, nat_tests)
    ]

-- where none passes up to the end, none passes
pub none_all : (p : ℕ → Bool) (xs : List ℕ) → position_or_len p xs ≡ length xs → list_any p xs ≡ false
none_all p xs e = rw (e, take-length xs) at (none_before p xs)

pub position_is : (p : ℕ → Bool) (xs : List ℕ) (o : Option ℕ) → o ≡ position p xs → unwrap_or o (length xs) ≡ position_or_len p xs
position_is p xs o e = rw e (first_or_len p xs)

pub or_false : (a b : Bool) → (a || b) ≡ false → (a ≡ false) × (b ≡ false)
or_false false b h = (refl, h)
or_false true b h = cc

-- what stands before the first that passes, where that is known
pub first_at : (p : ℕ → Bool) (xs rest : List ℕ) → list_any p xs ≡ false → Begins p rest → position_or_len p (xs ++ rest) ≡ length xs
first_at p [] [] none begins = refl
first_at p [] (y ∷ rest) none begins = rw begins refl
first_at p (x ∷ xs) rest none begins =
    let here = or_false (p x) (list_any p xs) none in
    let no : p x ≡ false = here.0 in
    let more : position_or_len p (xs ++ rest) ≡ length xs = first_at p xs rest here.1 begins in
    rw (no, more) (omega arith)

-- no line feed, no line
pub count_none : (p : ℕ → Bool) (xs : List ℕ) → list_any p xs ≡ false → count_by p xs ≡ 0
count_none p [] none = refl
count_none p (x ∷ xs) none =
    let here = or_false (p x) (list_any p xs) none in
    let no : p x ≡ false = here.0 in
    rw (no, count_none p xs here.1) refl

quoted_of : List ℕ → List ℕ → Option (Part × List ℕ)
quoted_of bs [] = None
quoted_of bs (quote ∷ rest) = Some (Quoted bs, rest)

-- the part that stands first, and what follows it
next_of : List ℕ → Option (Part × List ℕ)
next_of [] = None
next_of (b ∷ bs) =
    if is_blank b then Some (Blank b, bs)
    else if b == 35 then Some (Comment (take (position_or_len is_feed bs) bs), drop (position_or_len is_feed bs) bs)
    else if b == 34 then quoted_of (take (position_or_len is_quote bs) bs) (drop (position_or_len is_quote bs) bs)
    else Some (Plain b (take (position_or_len is_blank bs) bs), drop (position_or_len is_blank bs) bs)

next_fits : (p : Part) (rest : List ℕ) → Fits p rest → next_of (spelled p ++ rest) ≡ Some (p, rest)
unfolding next_of quoted_of
next_fits (Blank b) rest fits = rw fits refl
next_fits (Comment bs) rest fits = rw (first_at is_feed bs rest fits.0 fits.1, take-append_seam bs rest, drop-append_seam bs rest) refl
next_fits (Quoted bs) rest fits = rw (append_assoc bs (34 ∷ []) rest, first_at is_quote bs (34 ∷ rest) fits refl, take-append_seam bs (34 ∷ rest), drop-append_seam bs (34 ∷ rest)) refl
next_fits (Plain b bs) rest fits =
    let blank : is_blank b ≡ false = fits.0 in
    let comment : (b == 35) ≡ false = fits.1 in
    let quote : (b == 34) ≡ false = fits.2 in
    rw (blank, comment, quote, first_at is_blank bs rest fits.3 fits.4, take-append_seam bs rest, drop-append_seam bs rest) refl

-- no part stands first: the text ends, or a quote isn't closed
pub record Stops (rest : List ℕ) : Type 0 where
  none : next_of rest ≡ None

pub stops_end : Stops []
unfolding next_of
stops_end = record { none = refl }

drop_all : (xs : List ℕ) → drop (length xs) xs ≡ []
drop_all [] = refl
drop_all (x ∷ xs) = drop_all xs

pub stops_quote : (within : List ℕ) → list_any is_quote within ≡ false → Stops (34 ∷ within)
unfolding next_of quoted_of
stops_quote within none =
    let n : position_or_len is_quote within ≡ length within = rw append-nil at (first_at is_quote within [] none tt) in
    record { none = rw (n, drop_all within) refl }

both_same : {p q : Part} {ps qs : List Part} → p ≡ q → ps ≡ qs → p ∷ ps ≡ q ∷ qs
both_same first rest = cc

-- parts up to where no part stands are determined
pub same_parts : (ps qs : List Part) (s t : List ℕ) → AllFit ps s → AllFit qs t → Stops s → Stops t → spelling ps ++ s ≡ spelling qs ++ t → (ps ≡ qs) × (s ≡ t)
same_parts [] [] s t f g u v e = (refl, e)
same_parts [] (q ∷ qs) s t f g u v e =
    let there : next_of (spelled q ++ (spelling qs ++ t)) ≡ Some (q, spelling qs ++ t) = next_fits q (spelling qs ++ t) g.0 in
    let here : next_of (spelled q ++ (spelling qs ++ t)) ≡ None = ap next_of (sym (append_assoc (spelled q) (spelling qs) t) ∙ sym e) ∙ u.none in
    cc
same_parts (p ∷ ps) [] s t f g u v e =
    let there : next_of (spelled p ++ (spelling ps ++ s)) ≡ Some (p, spelling ps ++ s) = next_fits p (spelling ps ++ s) f.0 in
    let here : next_of (spelled p ++ (spelling ps ++ s)) ≡ None = ap next_of (sym (append_assoc (spelled p) (spelling ps) s) ∙ e) ∙ v.none in
    cc
same_parts (p ∷ ps) (q ∷ qs) s t f g u v e =
    let here : next_of (spelled p ++ (spelling ps ++ s)) ≡ Some (p, spelling ps ++ s) = next_fits p (spelling ps ++ s) f.0 in
    let there : next_of (spelled q ++ (spelling qs ++ t)) ≡ Some (q, spelling qs ++ t) = next_fits q (spelling qs ++ t) g.0 in
    let whole : spelled p ++ (spelling ps ++ s) ≡ spelled q ++ (spelling qs ++ t) = sym (append_assoc (spelled p) (spelling ps) s) ∙ e ∙ append_assoc (spelled q) (spelling qs) t in
    let firsts : next_of (spelled p ++ (spelling ps ++ s)) ≡ next_of (spelled q ++ (spelling qs ++ t)) = ap next_of whole in
    let both : (p, spelling ps ++ s) ≡ (q, spelling qs ++ t) = cc in
    let first : p ≡ q = ap (λ (x : Part × List ℕ). x.0) both in
    let rest : spelling ps ++ s ≡ spelling qs ++ t = ap (λ (x : Part × List ℕ). x.1) both in
    let more = same_parts ps qs s t f.1 g.1 u v rest in
    (both_same first more.0, more.1)
