-- Words that are looked for one by one: where the search ends, and how it goes on.
use Rattle.std.proofs.Common.{◌≡◌, inl, inr, ℕ, zero, suc, ◌+◌, ◌-◌, ◌<◌, ◌≤◌, List, [], ◌∷◌, length, get_or, refl, sym, subst, ap, ◌∙◌, Option, Some, None, Ok, ℤ, pos, Bool, true, false, String, string_bytes, arith}
use Rattle.std.specs.Prelude.{if◌then◌else◌, ◌||◌, option_map, unwrap_or}
use Rattle.std.specs.List.{find, list_any, range_with_len}
use Rattle.std.specs.Global.{Global}
use Rattle.std.proofs.lemmas.Bool.{cases_lt, lt-ltb}
use Rattle.std.proofs.lemmas.List.{get_or-map, length-map}
use Rattle.router.specs.declared.words.Sought.TheVariants.{Misfit}
use Rattle.router.specs.declared.words.Choice.TheVariants.{Via, Tile, Rips}
use Rattle.router.specs.declared.words.WordsFault.{WordsFault}
use Rattle.router.specs.Words.{CommandLine, word_texts, word, is_sought, first_word, fault_of, chosen, guide_of, said_by, unless_fault, command_of}

-- the numbers from m on, where there is one below n
numbers_more : (m n : ℕ) → m < n → range_with_len m (n - m) ≡ m ∷ range_with_len (m + 1) (n - (m + 1))
numbers_more m n h = let e : n - m ≡ suc (n - (m + 1)) = omega arith in rw e refl

numbers_end : (m n : ℕ) → n ≤ m → range_with_len m (n - m) ≡ []
numbers_end m n h = let e : n - m ≡ 0 = omega arith in rw e refl

-- one that passes ends the search
pub any_here : (p : ℕ → Bool) (m n : ℕ) → m < n → p m ≡ true → list_any p (range_with_len m (n - m)) ≡ true
any_here p m n h passes = ap (list_any p) (numbers_more m n h) ∙ ap (λ (b : Bool). b || list_any p (range_with_len (m + 1) (n - (m + 1)))) passes

pub find_here : (p : ℕ → Bool) (m n : ℕ) → m < n → p m ≡ true → find p (range_with_len m (n - m)) ≡ Some m
find_here p m n h passes = ap (find p) (numbers_more m n h) ∙ ap (λ (b : Bool). if b then Some m else find p (range_with_len (m + 1) (n - (m + 1)))) passes

-- one that fails lets it go on
pub any_on : (p : ℕ → Bool) (m n : ℕ) → m < n → p m ≡ false → list_any p (range_with_len m (n - m)) ≡ list_any p (range_with_len (m + 1) (n - (m + 1)))
any_on p m n h fails = ap (list_any p) (numbers_more m n h) ∙ ap (λ (b : Bool). b || list_any p (range_with_len (m + 1) (n - (m + 1)))) fails

pub find_on : (p : ℕ → Bool) (m n : ℕ) → m < n → p m ≡ false → find p (range_with_len m (n - m)) ≡ find p (range_with_len (m + 1) (n - (m + 1)))
find_on p m n h fails = ap (find p) (numbers_more m n h) ∙ ap (λ (b : Bool). if b then Some m else find p (range_with_len (m + 1) (n - (m + 1)))) fails

-- behind the last number nothing is found
pub any_end : (p : ℕ → Bool) (m n : ℕ) → n ≤ m → list_any p (range_with_len m (n - m)) ≡ false
any_end p m n h = ap (list_any p) (numbers_end m n h)

pub find_end : (p : ℕ → Bool) (m n : ℕ) → n ≤ m → find p (range_with_len m (n - m)) ≡ None
find_end p m n h = ap (find p) (numbers_end m n h)

-- where nothing is found no number passes
find_cases : {X : Type 0} (b : Bool) (x : X) (r : Option X) → (if b then Some x else r) ≡ None → (b ≡ false) × (r ≡ None)
find_cases true x r h = cc
find_cases false x r h = (refl, h)

find_none : (p : ℕ → Bool) (a k n : ℕ) → find p (range_with_len a k) ≡ None → a ≤ n → n < a + k → p n ≡ true → ⊥
find_none p a zero n h low high passes = absurd (omega arith)
find_none p a (suc k) n h low high passes =
    let parts = find_cases (p a) a (find p (range_with_len (a + 1) k)) h in
    elim (cases_lt a n) [
      | inl above ↦ find_none p (a + 1) k n parts.1 (omega arith) (omega arith) passes
      | inr below ↦
          let same : n ≡ a = omega arith in
          let fails : p n ≡ false = subst (λ m. p m ≡ false) (sym same) parts.0 in
          cc
    ]

-- a word is missing behind fewer than six
missing : (words : List (List ℕ)) (n : ℕ) → length words < n → n < 7 → is_sought Misfit words n ≡ true
missing words n behind below = rw (lt-ltb (length words) n behind, lt-ltb n 7 below) refl

-- a command line that fits has its six words
pub six_words : (words : List (String Global)) → first_word Misfit (word_texts words) ≡ None → 6 ≤ length words
six_words words h = elim (cases_lt (length words) 6) [
  | inl short ↦
      let count : length (word_texts words) ≡ length words = length-map words string_bytes in
      absurd (find_none (is_sought Misfit (word_texts words)) 1 (length (word_texts words) + 1) (length words + 1) h (omega arith) (omega (arith, count)) (missing (word_texts words) (length words + 1) (omega (arith, count)) (omega arith)))
  | inr long ↦ long
]

-- word n has the bytes of its text
pub word_get : (words : List (String Global)) (i n : ℕ) (d : String Global) → n ≡ i + 1 → i < length words → string_bytes (get_or words i d) ≡ word (word_texts words) n
word_get words i n d e h = let i' : n - 1 ≡ i = omega (arith, e) in rw i' (sym (get_or-map string_bytes words i d [] h))

-- what was read of a command line without a fault is what it says
pub says_line : (words : List (List ℕ)) (lef def guide out journal : List ℕ) (via : ℕ) (tile : Option ℤ) (rips : ℕ) → None ≡ fault_of words → lef ≡ word words 2 → def ≡ word words 3 → guide ≡ word words 4 → out ≡ word words 5 → journal ≡ word words 6 → via ≡ unwrap_or (chosen Via words) 1000 → tile ≡ option_map pos (chosen Tile words) → rips ≡ unwrap_or (chosen Rips words) 3 → command_of words ≡ Ok (record { lef = lef; def = def; guide = guide_of guide; out = out; journal = journal; via = via; tile = tile; rips = rips })
says_line words lef def guide out journal via tile rips fault a b g d e f h r =
    let line : said_by words ≡ (let l : CommandLine = record { lef = lef; def = def; guide = guide_of guide; out = out; journal = journal; via = via; tile = tile; rips = rips } in l) =
    (λ i. record { lef = sym a i; def = sym b i; guide = guide_of (sym g i); out = sym d i; journal = sym e i; via = sym f i; tile = sym h i; rips = sym r i }) in
    ap (λ (o : Option WordsFault). unless_fault o (said_by words)) (sym fault) ∙ ap Ok line
