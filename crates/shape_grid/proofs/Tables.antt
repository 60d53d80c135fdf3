-- Lists of tables.
use Rattle.std.proofs.Common.{◌≡◌, ℕ, ◌+◌, ◌<◌, List, [], ◌∷◌, ◌++◌, Bool, ◌||◌, Result, Ok, Err, OnOk, OnErr, Contains, IsPermutation, length, get_or, suc, set, take, filter, refl, ap, sym, ◌∙◌, inl, inr, arith}
use Rattle.std.specs.List.{flat_map, list_any, AllWithin}
use Rattle.std.proofs.lemmas.List.{append-nil, set-get_or}
use Rattle.std.proofs.lemmas.List.Concat.{flat_map-append}
use Rattle.std.proofs.lemmas.List.Elements.{Contains-append_cases, filter-append}
use Rattle.std.proofs.lemmas.List.Folds.{list_any-append}
use Rattle.std.proofs.lemmas.List.Sorted.{IsPermutation-append_comm, IsPermutation-append_right, IsPermutation-trans}
use Rattle.rt_base.specs.declared.tech.Shape.{Shape}
use Rattle.shape_grid.specs.Cells.{Kept, shapes_of}
use Rattle.shape_grid.proofs.Buckets.{more_in, less_in, same_in, all_more}

-- one more table, with one shape
pub one_table : (ts : List Kept) (t : Kept) (x : Shape) → IsPermutation (x ∷ []) t.shapes → IsPermutation (x ∷ shapes_of ts) (shapes_of (ts ++ t ∷ []))
one_table ts t x one =
    let all : shapes_of (ts ++ t ∷ []) ≡ shapes_of ts ++ t.shapes = flat_map-append (λ (k : Kept). k.shapes) ts (t ∷ []) ∙ ap (λ l. shapes_of ts ++ l) (append-nil t.shapes) in
    rw all (IsPermutation-trans _ (shapes_of ts ++ x ∷ []) _ (IsPermutation-append_comm (x ∷ []) (shapes_of ts)) (IsPermutation-append_right (shapes_of ts) _ _ one))

-- one more shape in a table
pub table_more : {A E : Type 0} (r : Result A E) (ts : List Kept) (i : ℕ) (old new : Kept) (x : Shape) → i < length ts → old ≡ get_or ts i old → OnOk r (IsPermutation (x ∷ old.shapes) new.shapes) → OnOk r (IsPermutation (x ∷ shapes_of ts) (shapes_of (set ts i new)))
table_more (Ok a) ts i old new x less is more = more_in (λ (k : Kept). k.shapes) ts i new old x less (rw (← is) more)
table_more (Err e) ts i old new x less is more = tt

pub table_same : {A E : Type 0} (r : Result A E) (ts : List Kept) (i : ℕ) (old new : Kept) → old ≡ get_or ts i old → OnErr r (new.shapes ≡ old.shapes) → OnErr r (shapes_of (set ts i new) ≡ shapes_of ts)
table_same (Ok a) ts i old new is same = tt
table_same (Err e) ts i old new is same = same_in (λ (k : Kept). k.shapes) ts i new old (rw (← is) same)

-- one shape less in a table
pub table_less : (ts : List Kept) (i : ℕ) (old new : Kept) (x : Shape) → i < length ts → old ≡ get_or ts i old → IsPermutation (x ∷ new.shapes) old.shapes → IsPermutation (x ∷ shapes_of (set ts i new)) (shapes_of ts)
table_less ts i old new x less is found = less_in (λ (k : Kept). k.shapes) ts i new old x less (rw (← is) found)

-- a table written back as it was
pub written_back : (ts : List Kept) (i : ℕ) (old new : Kept) → old ≡ get_or ts i old → new ≡ old → set ts i new ≡ ts
written_back ts i old new is same = ap (λ k. set ts i k) (same ∙ is) ∙ set-get_or ts i old

-- what is in all parts is in some part
pub in_part : {X Y : Type 0} (f : Y → List X) (ys : List Y) (x : X) → Contains (flat_map f ys) x → (k : ℕ) × (k < length ys) × ((d : Y) → Contains (f (get_or ys k d)) x)
in_part f [] x c = absurd (omega (arith, c.1))
in_part f (y ∷ ys) x c =
    elim (Contains-append_cases (f y) (flat_map f ys) x c) [
      | inl here ↦ (0, omega arith, λ d. here)
      | inr there ↦ (let t = in_part f ys x there in (suc t.0, omega (arith, t.1), λ d. t.2 d))
    ]

-- what is in no table is nowhere
pub in_none : (ts : List Kept) (n : ℕ) (x : Shape) → length ts ≡ n → AllWithin (λ (t : Kept). Contains t.shapes x → ⊥) ts 0 n → Contains (shapes_of ts) x → ⊥
in_none ts n x long none c =
    let found = in_part (λ (k : Kept). k.shapes) ts x c in
    by_default ts found.0 found.1 (λ d. none found.0 d (omega arith) (omega (arith, found.1)) (found.2 d))
  where
    by_default : (ts : List Kept) (k : ℕ) → k < length ts → ((d : Kept) → ⊥) → ⊥
    by_default [] k less fails = omega (arith, less)
    by_default (t ∷ ts) k less fails = fails t

-- some element of some part passes
pub any_parts : {X Y : Type 0} (p : X → Bool) (f : Y → List X) (ys : List Y) → list_any (λ y. list_any p (f y)) ys ≡ list_any p (flat_map f ys)
any_parts p f [] = refl
any_parts p f (y ∷ ys) = ap (λ (b : Bool). list_any p (f y) || b) (any_parts p f ys) ∙ sym (list_any-append p (f y) (flat_map f ys))

-- one more part, filtered
pub kept_more : {X Y : Type 0} (p : X → Bool) (f : Y → List X) (ys : List Y) (i : ℕ) (y : Y) (before now : List X) → i < length ys → y ≡ get_or ys i y → before ≡ filter p (flat_map f (take i ys)) → now ≡ before ++ filter p (f y) → now ≡ filter p (flat_map f (take (i + 1) ys))
kept_more p f ys i y before now less is was does =
    let more : flat_map f (take (i + 1) ys) ≡ flat_map f (take i ys) ++ f y = all_more f ys i y less ∙ ap (λ z. flat_map f (take i ys) ++ f z) (sym is) in
    does ∙ ap (λ l. l ++ filter p (f y)) was ∙ sym (filter-append p (flat_map f (take i ys)) (f y)) ∙ ap (filter p) (sym more)
