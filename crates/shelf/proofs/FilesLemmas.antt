-- A list of names with bytes, as the finite map from each name to its first bytes.
use Rattle.std.proofs.Common.{◌≡◌, ℕ, zero, suc, ◌<◌, Bool, true, false, cond, List, [], ◌∷◌, ◌++◌, map, length, get_or, set, Option, Some, None, option_map, string_bytes, String, refl, sym, ap, ◌∙◌, arith, ◌≤◌, true≢false}
use Rattle.std.specs.Global.{Global, Vec}
use Rattle.std.specs.List.{find, position, position_or_len}
use Rattle.std.specs.Str.{bytes_eq}
use Rattle.std.specs.Cmp.Lexicographic.{slice_cmp, nat_list_cmp_total}
use Rattle.std.specs.Ordering.{nat_cmp}
use Rattle.std.specs.FinMap as finite
use Rattle.std.proofs.lemmas.Map.Text.{is_eq-slice_cmp}
use Rattle.std.proofs.lemmas.Map.Lookups.{exact_bytes}
use Rattle.std.proofs.lemmas.List.{map-append}
use Rattle.std.proofs.lemmas.List.Folds.{find_at}
use Rattle.std.proofs.lemmas.List.Quantifiers.{position-Some}
use Rattle.std.proofs.lemmas.Option.{slice_get_past}
use Rattle.std.proofs.lemmas.Bool.Decides.{nat_tests}
use Rattle.std.proofs.lemmas.Slice.Eq.{bytes_eq-Decides}
use Rattle.shelf.specs.MemShelf.{files_of}

abbrev pub File : Type 0
File = String Global × Vec ℕ

-- the test by which a name is looked up
abbrev pub is_named : List ℕ → File → Bool
is_named name file = bytes_eq name (string_bytes file.0)

abbrev bytes_in : File → List ℕ
bytes_in file = file.1.items

abbrev entry : File → List ℕ × List ℕ
entry file = (string_bytes file.0, bytes_in file)

find-entries : (files : List File) (name : List ℕ) → finite.find (slice_cmp nat_cmp) name (map entry files) ≡ option_map bytes_in (find (is_named name) files)
find-entries [] name = refl
find-entries (f ∷ fs) name =
    ap (λ b. cond b (Some (bytes_in f)) (finite.find (slice_cmp nat_cmp) name (map entry fs))) (is_eq-slice_cmp name (string_bytes f.0))
    ∙ elim (is_named name f) as (λ b. cond b (Some (bytes_in f)) (finite.find (slice_cmp nat_cmp) name (map entry fs)) ≡ option_map bytes_in (cond b (Some f) (find (is_named name) fs))) [
      | true ↦ refl
      | false ↦ find-entries fs name
    ]

-- the map has at a name what the first file of that name holds
pub get-files_of : (files : List File) (name : List ℕ) → finite.get (files_of files) name ≡ option_map bytes_in (find (is_named name) files)
get-files_of files name = finite.get-from_entries nat_list_cmp_total _ name ∙ find-entries files name

overwritten : (b : Bool) (y f : File) (rest : Option File) → option_map bytes_in (cond b (Some y) rest) ≡ cond b (Some (bytes_in y)) (option_map bytes_in (cond b (Some f) rest))
overwritten true y f rest = refl
overwritten false y f rest = refl

kept : (t u : Bool) (f : File) (y : List ℕ) (old new : Option File) → (t ≡ true → u ≡ true → ⊥) → option_map bytes_in new ≡ cond u (Some y) (option_map bytes_in old) → option_map bytes_in (cond t (Some f) new) ≡ cond u (Some y) (option_map bytes_in (cond t (Some f) old))
kept true true f y old new apart h = absurd (apart refl refl)
kept true false f y old new apart h = refl
kept false u f y old new apart h = h

-- what a look-up finds after a write at the first file of a name
find-set : (files : List File) (name q : List ℕ) (i : ℕ) (y : File) → i < length files → is_named name (get_or files i y) ≡ true → ((k : ℕ) → k < i → is_named name (get_or files k y) ≡ false) → string_bytes y.0 ≡ name → option_map bytes_in (find (is_named q) (set files i y)) ≡ cond (bytes_eq q name) (Some (bytes_in y)) (option_map bytes_in (find (is_named q) files))
find-set [] name q i y within here before is = absurd (omega (arith, within))
find-set (f ∷ fs) name q zero y within here before is =
    let found : name ≡ string_bytes f.0 = (bytes_eq-Decides name (string_bytes f.0)).0 here in
    ap (λ b. option_map bytes_in (cond b (Some y) (find (is_named q) fs))) (ap (bytes_eq q) is)
    ∙ overwritten (bytes_eq q name) y f (find (is_named q) fs)
    ∙ ap (λ b. cond (bytes_eq q name) (Some (bytes_in y)) (option_map bytes_in (cond b (Some f) (find (is_named q) fs)))) (ap (bytes_eq q) found)
find-set (f ∷ fs) name q (suc i) y within here before is =
    let other : bytes_eq name (string_bytes f.0) ≡ false = before 0 (omega arith) in
    let apart : is_named q f ≡ true → bytes_eq q name ≡ true → ⊥ = λ t u.
    true≢false (sym ((bytes_eq-Decides name (string_bytes f.0)).1 (sym ((bytes_eq-Decides q name).0 u) ∙ (bytes_eq-Decides q (string_bytes f.0)).0 t)) ∙ other) in
    kept (is_named q f) (bytes_eq q name) f (bytes_in y) (find (is_named q) fs) (find (is_named q) (set fs i y)) apart
    (find-set fs name q i y (omega (arith, within)) here (λ k below. before (suc k) (omega (arith, below))) is)

-- to write at the first file of a name is to insert there
pub files_of-set : (files : List File) (name : List ℕ) (i : ℕ) (file : File) (bytes : Vec ℕ) → Some i ≡ position (is_named name) files → file ≡ get_or files i file → files_of (set files i (file.0, bytes)) ≡ finite.insert (files_of files) name bytes.items
files_of-set files name i file bytes at read =
    let y : File = (file.0, bytes) in
    let here = position-Some (is_named name) files i y (sym at) in
    let found = position-Some (is_named name) files i file (sym at) in
    let is : string_bytes file.0 ≡ name = ap (λ (f : File). string_bytes f.0) read ∙ sym ((bytes_eq-Decides name (string_bytes (get_or files i file).0)).0 found.1) in
    finite.same_map nat_list_cmp_total exact_bytes _ _ (λ q.
    get-files_of (set files i y) q
    ∙ find-set files name q i y here.0 here.1 here.2 is
    ∙ ap (cond (bytes_eq q name) (Some (bytes_in y))) (sym (get-files_of files q))
    ∙ ap (λ b. cond b (Some (bytes_in y)) (finite.get (files_of files) q)) (sym (is_eq-slice_cmp q name))
    ∙ sym (finite.get-insert nat_list_cmp_total (files_of files) name bytes.items q))

not_found : (p : File → Bool) (files : List File) → position p files ≡ None → length files ≤ position_or_len p files
not_found p files none = grind (arith, nat_tests)

absent : (p : File → Bool) (files : List File) → None ≡ position p files → find p files ≡ None
absent p files none = find_at p files ∙ slice_get_past files (position_or_len p files) (not_found p files (sym none))

-- where no file of the name is found, to push one is to insert there
pub files_of-push : (files : List File) (name : List ℕ) (y : File) → None ≡ position (is_named name) files → string_bytes y.0 ≡ name → files_of (files ++ y ∷ []) ≡ finite.insert (files_of files) name y.1.items
files_of-push files name y at is =
    ap finite.from_entries (map-append entry files (y ∷ []))
    ∙ finite.from_entries_push nat_list_cmp_total exact_bytes (map entry files) (string_bytes y.0) (bytes_in y)
    (find-entries files (string_bytes y.0) ∙ ap (option_map bytes_in) (ap (λ k. find (is_named k) files) is ∙ absent (is_named name) files at))
    ∙ ap (λ k. finite.insert (files_of files) k y.1.items) is
