-- Words of texts, split as their bytes are, and where they lie in a text.
use Rattle.std.proofs.Common.{◌≡◌, ℕ, ◌+◌, ◌-◌, ◌≤◌, ◌<◌, ◌⊎◌, inl, inr, List, [], ◌∷◌, ◌++◌, length, take, drop, refl, ap, sym, ◌∙◌, arith, append_assoc, length-append, length-drop}
use Rattle.std.proofs.lemmas.List.{map-append, length-map, take-map, drop-map, drop-append-le, take-append-le, take_all}
use Rattle.std.proofs.lemmas.Bool.{cases_lt}
use Rattle.std.proofs.Math.Seq.{drop-append-add}
use Rattle.rt_forms.specs.Lexeme.{Lexeme, End, Place, put}
use Rattle.rt_forms.specs.Reading.{left_of}
use Rattle.rt_forms.proofs.Laws.{put_append}
use Rattle.written.specs.Cuts.{bytes_of}
use Rattle.same_words.proofs.Combining.{left_put}
use Rattle.def_again.specs.Again.{range_words}

pub bytes_append : (a b : List Place) → bytes_of (a ++ b) ≡ bytes_of a ++ bytes_of b
bytes_append a b = map-append (λ (p : Place). p.word) a b

pub bytes_length : (a : List Place) → length (bytes_of a) ≡ length a
bytes_length a = length-map a (λ (p : Place). p.word)

-- words of these bytes are as many
pub same_length : (a : List Place) (b : List (List ℕ)) → bytes_of a ≡ b → length a ≡ length b
same_length a b e = sym (bytes_length a) ∙ ap length e

-- ---- splitting

pub record Split (words : List Place) (a b : List (List ℕ)) : Type 0 where
  pub front : List Place
  pub back : List Place
  pub whole : words ≡ front ++ back
  pub first : bytes_of front ≡ a
  pub second : bytes_of back ≡ b

pub split : (words : List Place) (a b : List (List ℕ)) → bytes_of words ≡ a ++ b → Split words a b
split words [] b h = record { front = []; back = words; whole = refl; first = refl; second = h }
split [] (w ∷ a) b h = absurd cc
split (p ∷ words) (w ∷ a) b h =
    let t : bytes_of words ≡ a ++ b = cc in
    let e : p.word ≡ w = cc in
    let s = split words a b t in
    let f : bytes_of s.front ≡ a = s.first in
    record { front = p ∷ s.front; back = s.back; whole = ap (λ (v : List Place). p ∷ v) {y = s.front ++ s.back} s.whole; first = cc; second = s.second }

pub record SplitOne (words : List Place) (w : List ℕ) (b : List (List ℕ)) : Type 0 where
  pub place : Place
  pub back : List Place
  pub whole : words ≡ place ∷ back
  pub first : place.word ≡ w
  pub second : bytes_of back ≡ b

pub split_one : (words : List Place) (w : List ℕ) (b : List (List ℕ)) → bytes_of words ≡ w ∷ b → SplitOne words w b
split_one [] w b h = absurd cc
split_one (p ∷ words) w b h = record { place = p; back = words; whole = refl; first = cc; second = cc }

-- words that end with a mark, taken apart where some are behind
pub record Behind (front back before : List Place) (mark : Place) : Type 0 where
  pub rest : List Place
  pub whole : back ≡ rest ++ mark ∷ []
  pub before_is : before ≡ front ++ rest

pub behind : (front back before : List Place) (mark : Place) → before ++ mark ∷ [] ≡ front ++ back → 0 < length back → Behind front back before mark
behind [] back before mark e some = record { rest = before; whole = sym e; before_is = refl }
behind (p ∷ front) back [] mark e some =
    let t : [] ≡ front ++ back = cc in
    absurd (omega (arith, ap length t, length-append front back))
behind (p ∷ front) back (q ∷ before) mark e some =
    let t : before ++ mark ∷ [] ≡ front ++ back = cc in
    let h : q ≡ p = cc in
    let b = behind front back before mark t some in
    let i : before ≡ front ++ b.rest = b.before_is in
    record { rest = b.rest; whole = b.whole; before_is = cc }

-- ---- where words lie

-- these words of a text lie behind so many and before a rest
pub record Lies (words gone stretch : List Place) (rest : List Lexeme) : Type 0 where
  pub line : ℕ
  pub whole : put gone (put stretch rest) ≡ put words (End line ∷ [])

pub lies_first : (words gone front back : List Place) (rest : List Lexeme) → Lies words gone (front ++ back) rest → Lies words gone front (put back rest)
lies_first words gone front back rest h = record { line = h.line; whole = ap (put gone) (sym (put_append front back rest)) ∙ h.whole }

pub lies_second : (words gone front back : List Place) (rest : List Lexeme) → Lies words gone (front ++ back) rest → Lies words (gone ++ front) back rest
lies_second words gone front back rest h = record { line = h.line; whole = put_append gone front (put back rest) ∙ ap (put gone) (sym (put_append front back rest)) ∙ h.whole }

pub lies_left : (words gone stretch : List Place) (rest : List Lexeme) → Lies words gone stretch rest → length gone + (length stretch + left_of rest) ≡ length words
lies_left words gone stretch rest h =
    omega (arith, ap left_of h.whole, left_put gone (put stretch rest), left_put stretch rest, left_put words (End h.line ∷ []))

-- what begins a text, as its words
record Begins (words front : List Place) : Type 0 where
  back : List Place
  whole : words ≡ front ++ back

begins : (words front : List Place) (rest : List Lexeme) (line : ℕ) → put front rest ≡ put words (End line ∷ []) → Begins words front
begins words [] rest line h = record { back = words; whole = refl }
begins [] (p ∷ front) rest line h = absurd cc
begins (q ∷ words) (p ∷ front) rest line h =
    let t : put front rest ≡ put words (End line ∷ []) = cc in
    let a : q.line ≡ p.line = cc in
    let b : q.first ≡ p.first = cc in
    let c : q.word ≡ p.word = cc in
    let r = begins words front rest line t in
    let e : q ≡ p = λ i. record { line = a i; first = b i; word = c i } in
    let w : words ≡ front ++ r.back = r.whole in
    record { back = r.back; whole = cc }

slice_of_front : (xs ys : List (List ℕ)) (i n : ℕ) → i + n ≤ length xs → take n (drop i (xs ++ ys)) ≡ take n (drop i xs)
slice_of_front xs ys i n le =
    let short : n ≤ length (drop i xs) = omega (arith, length-drop i xs) in
    ap (take n) (drop-append-le i xs ys (omega arith)) ∙ take-append-le n (drop i xs) ys short

-- the bytes of a range that lies in a stretch
pub stretch_words : (words gone stretch : List Place) (rest : List Lexeme) (i n : ℕ) → Lies words gone stretch rest → i + n ≤ length stretch
    → bytes_of (take n (drop (length gone + i) words)) ≡ take n (drop i (bytes_of stretch))
stretch_words words gone stretch rest i n h le =
    let b = begins words (gone ++ stretch) rest h.line (put_append gone stretch rest ∙ h.whole) in
    let whole : words ≡ gone ++ (stretch ++ b.back) = b.whole ∙ append_assoc gone stretch b.back in
    let word : Place → List ℕ = λ p. p.word in
    let d : drop (length gone + i) words ≡ drop i (stretch ++ b.back) = ap (drop (length gone + i)) whole ∙ drop-append-add gone (stretch ++ b.back) i in
    let m : bytes_of (take n (drop i (stretch ++ b.back))) ≡ take n (drop i (bytes_of (stretch ++ b.back))) = sym (ap (take n) (drop-map word i (stretch ++ b.back)) ∙ take-map word n (drop i (stretch ++ b.back))) in
    ap (λ (v : List Place). bytes_of (take n v)) d ∙ m ∙ ap (λ (v : List (List ℕ)). take n (drop i v)) (bytes_append stretch b.back) ∙ slice_of_front (bytes_of stretch) (bytes_of b.back) i n (omega (arith, bytes_length stretch))

-- the bytes of a range that is a stretch
pub whole_words : (words gone stretch : List Place) (rest : List Lexeme) (a b : ℕ) → Lies words gone stretch rest → a ≡ length gone → b ≡ length gone + length stretch → range_words words (a, b) ≡ bytes_of stretch
whole_words words gone stretch rest a b h low high =
    let n : b - a ≡ length stretch = omega arith in
    let at : a ≡ length gone + 0 = omega arith in
    ap (λ (k : ℕ). bytes_of (take k (drop a words))) n ∙ ap (λ (k : ℕ). bytes_of (take (length stretch) (drop k words))) at
    ∙ stretch_words words gone stretch rest 0 (length stretch) h (omega arith) ∙ take_all (length stretch) (bytes_of stretch) (omega (arith, bytes_length stretch))

-- a range of words that lie in two texts has the same words in both
pub moved_words : (old new gone gone' stretch stretch' : List Place) (rest rest' : List Lexeme) (before a b a' b' : ℕ)
    → Lies old gone stretch rest → Lies new gone' stretch' rest' → bytes_of stretch' ≡ bytes_of stretch → length gone' ≡ length gone + before
    → length gone ≤ a → b ≤ length gone + length stretch → a' ≡ a + before → b' ≡ b + before → range_words new (a', b') ≡ range_words old (a, b)
moved_words old new gone gone' stretch stretch' rest rest' before a b a' b' h h' same long low high first last = go (cases_lt b a)
  where
    go : (b < a) ⊎ (a ≤ b) → range_words new (a', b') ≡ range_words old (a, b)
    go (inl lt) =
        let x : b - a ≡ 0 = omega arith in
        let y : b' - a' ≡ 0 = omega arith in
        ap (λ (n : ℕ). bytes_of (take n (drop a' new))) y ∙ sym (ap (λ (n : ℕ). bytes_of (take n (drop a old))) x)
    go (inr le) =
        let i = a - length gone in
        let n = b - a in
        let m : b' - a' ≡ n = omega arith in
        let at : a ≡ length gone + i = omega arith in
        let at' : a' ≡ length gone' + i = omega arith in
        let e = stretch_words old gone stretch rest i n h (omega arith) in
        let e' = stretch_words new gone' stretch' rest' i n h' (omega (arith, same_length stretch' (bytes_of stretch) same, bytes_length stretch)) in
        ap (λ (k : ℕ). bytes_of (take k (drop a' new))) m ∙ ap (λ (k : ℕ). bytes_of (take n (drop k new))) at' ∙ e' ∙ ap (λ (v : List (List ℕ)). take n (drop i v)) same
        ∙ sym e ∙ sym (ap (λ (k : ℕ). bytes_of (take n (drop k old))) at)
