-- Steps of loops over lists that correspond item by item.
use Rattle.std.proofs.Common.{◌≡◌, ℕ, zero, suc, ◌+◌, ◌<◌, ◌≤◌, List, [], ◌∷◌, ◌++◌, Bool, true, false, ◌||◌, cond, Some, None, Option, is_some, not, position, map, AllPairs, ◌≢◌, length, get_or, take, drop, slice_get, option_map, unwrap_or, All, bytes_eq, refl, sym, ap, subst, ◌∙◌, arith}
use Rattle.std.specs.List.{AllZip, enumerate_from, filter, find, list_any}
use Rattle.std.proofs.lemmas.List.{map_push, get_or-map, length-map, drop_more, take-append-drop, length-append, length-take-le, append-nil}
use Rattle.std.proofs.lemmas.List.Elements.{All-push, All-head, All-tail, filter_more, filter-append}
use Rattle.std.proofs.lemmas.List.Folds.{list_any-append}
use Rattle.std.proofs.lemmas.Option.{same_Some}
use Rattle.rt_base.specs.Sides.{Sides}
use Rattle.def_text.specs.declared.def.IoPin.{IoPin}
use Rattle.build.specs.LookUps.{pin_names, pin_rects}
use Rattle.rt_words.proofs.Words.{same}
use Rattle.std.proofs.lemmas.List.Quantifiers.{position-Some}
use Rattle.std.proofs.lemmas.List.Recursion.{found_at}
use Rattle.cells.proofs.Lists.{is_some-position, AllZip-more, enumerate_from-more, All-found}
pub use Rattle.cells.proofs.Lists.{next, taken_more, or-false, any_more}
use Rattle.build.proofs.TechLemmas.{AllZip-length}

-- one item more, with its number
pub numbered_next : {A : Type 0} → (xs : List A) (i : ℕ) (x : A) → i < length xs → x ≡ get_or xs i x → enumerate_from 0 (take (i + 1) xs) ≡ enumerate_from 0 (take i xs) ++ (i, x) ∷ []
numbered_next xs i x within at =
    let number : 0 + length (take i xs) ≡ i = omega (arith, length-take-le i xs (omega arith)) in
    ap (enumerate_from 0) (next xs i x within at) ∙ enumerate_from-more 0 (take i xs) x ∙ ap (λ (n : ℕ). enumerate_from 0 (take i xs) ++ (n, x) ∷ []) number

pub numbered_more : {A B : Type 0} → (R : ℕ × A → B → Type 0) (xs : List A) (i : ℕ) (x : A) (ys : List B) (y : B) → i < length xs → x ≡ get_or xs i x → AllZip R (enumerate_from 0 (take i xs)) ys → R (i, x) y → AllZip R (enumerate_from 0 (take (i + 1) xs)) (ys ++ y ∷ [])
numbered_more {A} {B} R xs i x ys y within at h r =
    subst (λ (zs : List (ℕ × A)). AllZip R zs (ys ++ y ∷ [])) (sym (numbered_next xs i x within at)) (AllZip-more R (enumerate_from 0 (take i xs)) ys (i, x) y h r)

pub length-enumerate_from : {X : Type 0} → (n : ℕ) (xs : List X) → length (enumerate_from n xs) ≡ length xs
length-enumerate_from n [] = refl
length-enumerate_from n (x ∷ xs) = ap suc (length-enumerate_from (n + 1) xs)

-- how many pins are listed so far
pub numbered_count : {A B : Type 0} → (R : ℕ × A → B → Type 0) (xs : List A) (i : ℕ) (ys : List B) → i ≤ length xs → AllZip R (enumerate_from 0 (take i xs)) ys → length ys ≡ i
numbered_count R xs i ys within h = omega (arith, AllZip-length R (enumerate_from 0 (take i xs)) ys h, length-enumerate_from 0 (take i xs), length-take-le i xs within)

pub numbered_all : {X : Type 0} → (Q : ℕ × X → Type 0) (ys : List X) (y : X) (i : ℕ) → length ys ≡ i → All Q (enumerate_from 0 ys) → Q (i, y) → All Q (enumerate_from 0 (ys ++ y ∷ []))
numbered_all {X} Q ys y i count h q =
    subst (λ (zs : List (ℕ × X)). All Q zs) (sym (enumerate_from-more 0 ys y))
    (All-push Q (enumerate_from 0 ys) (0 + length ys, y) h (subst (λ (n : ℕ). Q (n, y)) (omega (arith, count)) q))

all_from : {X : Type 0} → (Q : ℕ × X → Type 0) (n : ℕ) (ys : List X) (k : ℕ) (y : X) → All Q (enumerate_from n ys) → slice_get ys k ≡ Some y → Q (n + k, y)
all_from Q n [] k y h at = cc
all_from {X} Q n (z ∷ zs) zero y h at = subst (λ (m : ℕ). Q (m, y)) (omega arith) (subst (λ (x : X). Q (n, x)) (same_Some z y at) (All-head Q (n, z) (enumerate_from (n + 1) zs) h))
all_from Q n (z ∷ zs) (suc k) y h at = subst (λ (m : ℕ). Q (m, y)) (omega arith) (all_from Q (n + 1) zs k y (All-tail Q (n, z) (enumerate_from (n + 1) zs) h) at)

pub all_numbered : {X : Type 0} → (Q : ℕ × X → Type 0) (ys : List X) (k : ℕ) (y : X) → All Q (enumerate_from 0 ys) → slice_get ys k ≡ Some y → Q (k, y)
all_numbered Q ys k y h at = subst (λ (m : ℕ). Q (m, y)) (omega arith) (all_from Q 0 ys k y h at)

-- an item that a filter keeps, and one that it doesn't
pub kept_more : {A B : Type 0} → (R : A → B → Type 0) (p : A → Bool) (xs : List A) (i : ℕ) (x : A) (ys : List B) (y : B) → i < length xs → x ≡ get_or xs i x → p x ≡ true → AllZip R (filter p (take i xs)) ys → R x y → AllZip R (filter p (take (i + 1) xs)) (ys ++ y ∷ [])
kept_more {A} R p xs i x ys y within at pass h r =
    subst (λ (zs : List A). AllZip R zs (ys ++ y ∷ [])) (sym (filter_more p xs i x within ∙ ap (λ (z : A). filter p (take i xs) ++ cond (p z) (z ∷ []) []) (sym at) ∙ ap (λ (b : Bool). filter p (take i xs) ++ cond b (x ∷ []) []) pass))
    (AllZip-more R (filter p (take i xs)) ys x y h r)

pub kept_skip : {A : Type 0} → (p : A → Bool) (xs : List A) (i : ℕ) (x : A) → i < length xs → x ≡ get_or xs i x → p x ≡ false → filter p (take (i + 1) xs) ≡ filter p (take i xs)
kept_skip {A} p xs i x within at fail =
    filter_more p xs i x within
    ∙ ap (λ (z : A). filter p (take i xs) ++ cond (p z) (z ∷ []) []) (sym at)
    ∙ ap (λ (b : Bool). filter p (take i xs) ++ cond b (x ∷ []) []) fail
    ∙ append-nil (filter p (take i xs))

-- what holds of the rectangles of each pin holds of those of the pin that is named
pub rects_named : (P : List (List ℕ × Sides) → Type 0) (pins : List IoPin) (name : List ℕ) → P [] → All (λ (p : IoPin). P p.rects) pins → P (pin_rects pins name)
rects_named P pins name none all = by_pin (find (λ (p : IoPin). bytes_eq name p.name) pins) (λ p h. All-found (λ (q : IoPin). P q.rects) (λ (q : IoPin). bytes_eq name q.name) pins p all h)
  where
    by_pin : (o : Option IoPin) → ((p : IoPin) → o ≡ Some p → P p.rects) → P (unwrap_or (option_map (λ (p : IoPin). p.rects) o) [])
    by_pin None h = none
    by_pin (Some p) h = h p refl

-- a filter keeps one more than before an item that passes
pub kept_count : {X : Type 0} → (p : X → Bool) (xs : List X) (i : ℕ) (x : X) → i < length xs → x ≡ get_or xs i x → p x ≡ true → length (filter p (take i xs)) + 1 ≤ length (filter p xs)
kept_count {X} p xs i x within at pass =
    let rest : List X = drop (i + 1) xs in
    let whole : xs ≡ take i xs ++ (x ∷ rest) = sym (take-append-drop i xs) ∙ ap (λ (ys : List X). take i xs ++ ys) (drop_more xs i x within ∙ ap (λ (y : X). y ∷ rest) (sym at)) in
    let kept : filter p xs ≡ filter p (take i xs) ++ (x ∷ filter p rest) =
    ap (filter p) whole ∙ filter-append p (take i xs) (x ∷ rest) ∙ ap (λ (b : Bool). filter p (take i xs) ++ cond b (x ∷ filter p rest) (filter p rest)) pass in
    omega (arith, ap length kept, length-append (filter p (take i xs)) (x ∷ filter p rest))

pub kept_next : {X : Type 0} → (p : X → Bool) (xs : List X) (i : ℕ) (x : X) → i < length xs → x ≡ get_or xs i x → p x ≡ true → filter p (take (i + 1) xs) ≡ filter p (take i xs) ++ x ∷ []
kept_next {X} p xs i x within at pass =
    filter_more p xs i x within ∙ ap (λ (z : X). filter p (take i xs) ++ cond (p z) (z ∷ []) []) (sym at) ∙ ap (λ (b : Bool). filter p (take i xs) ++ cond b (x ∷ []) []) pass

-- the pin with this name, by its place among the names
found_pin : (pins : List IoPin) (name : List ℕ) (k : ℕ) (pin : IoPin) → position (bytes_eq name) (pin_names pins) ≡ Some k → k < length pins → pin ≡ get_or pins k pin → find (λ (p : IoPin). bytes_eq name p.name) pins ≡ Some pin
found_pin pins name k pin at within is =
    let first = position-Some (bytes_eq name) (pin_names pins) k [] at in
    let by : (j : ℕ) → j < length pins → get_or (pin_names pins) j [] ≡ (get_or pins j pin).name = λ j lt. get_or-map (λ (p : IoPin). p.name) pins j pin [] lt in
    found_at (find (λ (p : IoPin). bytes_eq name p.name)) (λ (p : IoPin). bytes_eq name p.name) (λ (p : IoPin). Some p) None refl (λ x xs. refl) pins k pin within
    (λ j lt. ap (bytes_eq name) (sym (by j (omega arith))) ∙ first.2 j lt)
    (ap (bytes_eq name) (sym (by k within)) ∙ first.1)
    ∙ ap (λ (p : IoPin). Some p) (sym is)

pub rects_found : (pins : List IoPin) (name : List ℕ) (k : ℕ) (pin : IoPin) → position (bytes_eq name) (pin_names pins) ≡ Some k → k < length pins → pin ≡ get_or pins k pin → pin_rects pins name ≡ pin.rects
rects_found pins name k pin at within is = ap (λ (o : Option IoPin). unwrap_or (option_map (λ (p : IoPin). p.rects) o) []) (found_pin pins name k pin at within is)

any_names : (name : List ℕ) (pins : List IoPin) → list_any (bytes_eq name) (pin_names pins) ≡ list_any (λ (p : IoPin). bytes_eq name p.name) pins
any_names name [] = refl
any_names name (p ∷ ps) = ap (λ (b : Bool). bytes_eq name p.name || b) (any_names name ps)

find_none : {X : Type 0} → (p : X → Bool) (xs : List X) → list_any p xs ≡ false → find p xs ≡ None
find_none p [] h = refl
find_none {X} p (x ∷ xs) h = by_test (p x) h (find_none p xs)
  where
    by_test : (b : Bool) → (b || list_any p xs) ≡ false → (list_any p xs ≡ false → find p xs ≡ None) → cond b (Some x) (find p xs) ≡ None
    by_test true e later = cc
    by_test false e later = later e

pub rects_nowhere : (pins : List IoPin) (name : List ℕ) → position (bytes_eq name) (pin_names pins) ≡ None → pin_rects pins name ≡ []
rects_nowhere pins name at =
    let none : list_any (bytes_eq name) (pin_names pins) ≡ false = sym (is_some-position (bytes_eq name) (pin_names pins)) ∙ ap is_some at in
    ap (λ (o : Option IoPin). unwrap_or (option_map (λ (p : IoPin). p.rects) o) []) (find_none (λ (p : IoPin). bytes_eq name p.name) pins (sym (any_names name pins) ∙ none))

pub place_within : (pins : List IoPin) (name : List ℕ) (k : ℕ) → position (bytes_eq name) (pin_names pins) ≡ Some k → k < length pins
place_within pins name k at = omega (arith, (position-Some (bytes_eq name) (pin_names pins) k [] at).0, length-map pins (λ (p : IoPin). p.name))

-- names that are apart, by the items that have them
pub apart_from_names : {X : Type 0} → (f : X → List ℕ) (xs : List X) → AllPairs (λ a b. a ≢ b) (map f xs) → AllPairs (λ a b. f a ≢ f b) xs
apart_from_names f xs h i j d lt within e =
    h i j (f d) lt (omega (arith, length-map xs f)) (get_or-map f xs i d (f d) (omega arith) ∙ e ∙ sym (get_or-map f xs j d (f d) within))

pub map_next : {X Y : Type 0} → (f : X → Y) (xs : List X) (i : ℕ) (x : X) → i < length xs → x ≡ get_or xs i x → map f (take (i + 1) xs) ≡ map f (take i xs) ++ f x ∷ []
map_next f xs i x within at = ap (map f) (next xs i x within at) ∙ map_push f (take i xs) x

-- a name is added, or was there
pub once_more : (names more : List (List ℕ)) (name q : List ℕ) (b : Bool) → b ≡ not (list_any (bytes_eq name) names) → more ≡ cond b (names ++ name ∷ []) names → list_any (bytes_eq q) more ≡ (list_any (bytes_eq q) names || bytes_eq q name)
once_more names more name q true added is =
    ap (list_any (bytes_eq q)) is ∙ list_any-append (bytes_eq q) names (name ∷ []) ∙ ap (λ (b : Bool). list_any (bytes_eq q) names || b) (or-false (bytes_eq q name))
once_more names more name q false added is =
    ap (list_any (bytes_eq q)) is ∙ by_test (bytes_eq q name) refl
  where
    there : (b : Bool) → false ≡ not b → b ≡ true
    there true e = refl
    there false e = e

    by_test : (b : Bool) → bytes_eq q name ≡ b → list_any (bytes_eq q) names ≡ (list_any (bytes_eq q) names || b)
    by_test true e =
        let known : list_any (bytes_eq q) names ≡ true = ap (λ (n : List ℕ). list_any (bytes_eq n) names) (same q name e) ∙ there _ added in
        known ∙ sym (ap (λ (a : Bool). a || true) known)
    by_test false e = sym (or-false (list_any (bytes_eq q) names))
