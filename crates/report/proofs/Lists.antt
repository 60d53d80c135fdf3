-- Loops by an index over two lists of one length or over numbered items.
use Rattle.std.proofs.Common.{◌≡◌, ◌∙◌, ℕ, ◌+◌, ◌<◌, ◌≤◌, List, [], ◌∷◌, ◌++◌, Bool, true, false, ap, sym, length, get_or, take, count_by, sum_by, zero-add, arith}
use Rattle.std.specs.List.{zip, enumerate_from}
use Rattle.std.proofs.lemmas.List.{take_more, take_all}
use Rattle.std.proofs.lemmas.List.FromFn.{get_or-enumerate_from, length-enumerate_from}
use Rattle.std.proofs.lemmas.List.Sums.{count_by_more_yes, count_by_more_no, sum_by_more}
use Rattle.std.proofs.lemmas.Slice.Zip.{length-zip, get_or-zip}

within_zip : {X Y : Type 0} (xs : List X) (ys : List Y) (i : ℕ) → length xs ≡ length ys → i < length xs → i < length (zip xs ys)
within_zip xs ys i same h = rw (length-zip xs ys) (omega (arith, same, h))

at_zip : {X Y : Type 0} (xs : List X) (ys : List Y) (i : ℕ) (x : X) (y : Y) → length xs ≡ length ys → i < length xs → x ≡ get_or xs i x → y ≡ get_or ys i y → get_or (zip xs ys) i (x, y) ≡ (x, y)
at_zip {X} {Y} xs ys i x y same h x_is y_is =
    let first : X → X × Y = λ u. (u, get_or ys i y) in
    let second : Y → X × Y = λ v. (x, v) in
    get_or-zip xs ys i (x, y) h (omega (arith, same, h)) ∙ ap first (sym x_is) ∙ ap second (sym y_is)

-- one pair more passes, or not
pub count-zip_yes : {X Y : Type 0} (p : X × Y → Bool) (xs : List X) (ys : List Y) (i : ℕ) (x : X) (y : Y) → length xs ≡ length ys → i < length xs → x ≡ get_or xs i x → y ≡ get_or ys i y → p (x, y) ≡ true → count_by p (take (i + 1) (zip xs ys)) ≡ count_by p (take i (zip xs ys)) + 1
count-zip_yes p xs ys i x y same h x_is y_is passes =
    count_by_more_yes p (zip xs ys) i (x, y) (within_zip xs ys i same h) (ap p (at_zip xs ys i x y same h x_is y_is) ∙ passes)

pub count-zip_no : {X Y : Type 0} (p : X × Y → Bool) (xs : List X) (ys : List Y) (i : ℕ) (x : X) (y : Y) → length xs ≡ length ys → i < length xs → x ≡ get_or xs i x → y ≡ get_or ys i y → p (x, y) ≡ false → count_by p (take (i + 1) (zip xs ys)) ≡ count_by p (take i (zip xs ys))
count-zip_no p xs ys i x y same h x_is y_is fails =
    count_by_more_no p (zip xs ys) i (x, y) (within_zip xs ys i same h) (ap p (at_zip xs ys i x y same h x_is y_is) ∙ fails)

-- one pair more
pub take-zip : {X Y : Type 0} (xs : List X) (ys : List Y) (i : ℕ) (x : X) (y : Y) → length xs ≡ length ys → i < length xs → x ≡ get_or xs i x → y ≡ get_or ys i y → take (i + 1) (zip xs ys) ≡ take i (zip xs ys) ++ (x, y) ∷ []
take-zip {X} {Y} xs ys i x y same h x_is y_is =
    let with : X × Y → List (X × Y) = λ p. take i (zip xs ys) ++ p ∷ [] in
    take_more (zip xs ys) i (x, y) (within_zip xs ys i same h) ∙ ap with (at_zip xs ys i x y same h x_is y_is)

-- all pairs
pub take_all-zip : {X Y : Type 0} (xs : List X) (ys : List Y) (i : ℕ) → length xs ≤ i → take i (zip xs ys) ≡ zip xs ys
take_all-zip xs ys i h = take_all i (zip xs ys) (rw (length-zip xs ys) (omega (arith, h)))

-- one numbered item more
pub sum-enumerate : {X : Type 0} (f : ℕ × X → ℕ) (xs : List X) (i : ℕ) (x : X) → i < length xs → x ≡ get_or xs i x → sum_by f (take (i + 1) (enumerate_from 0 xs)) ≡ sum_by f (take i (enumerate_from 0 xs)) + f (i, x)
sum-enumerate {X} f xs i x h x_is =
    let number : ℕ → ℕ × X = λ n. (n, get_or xs i x) in
    let item : X → ℕ × X = λ u. (i, u) in
    let more : ℕ × X → ℕ = λ p. sum_by f (take i (enumerate_from 0 xs)) + f p in
    sum_by_more f (enumerate_from 0 xs) i (i, x) (rw (length-enumerate_from 0 xs) h)
    ∙ ap more (get_or-enumerate_from 0 xs i (i, x) h ∙ ap number (zero-add i) ∙ ap item (sym x_is))

pub take_all-enumerate : {X : Type 0} (xs : List X) (i : ℕ) → length xs ≤ i → take i (enumerate_from 0 xs) ≡ enumerate_from 0 xs
take_all-enumerate xs i h = take_all i (enumerate_from 0 xs) (rw (length-enumerate_from 0 xs) h)
