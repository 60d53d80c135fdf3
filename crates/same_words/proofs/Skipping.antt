-- Words that are skipped, and the numbers of words.
use Rattle.std.proofs.Common.{◌≡◌, ℕ, Bool, true, false, ◌+◌, ◌-◌, ◌<◌, List, [], ◌∷◌, ◌++◌, length, Option, Some, None, refl, sym, ap, subst, ◌∙◌, arith, inl, inr, bytes_eq, codes, ◌&&◌}
use Rattle.std.proofs.lemmas.List.{length-append}
use Rattle.rt_forms.specs.Lexeme.{Lexeme, Place, put, first_of}
use Rattle.rt_forms.specs.Form.{Form, done, look, ◌>>=◌, choose, Which, Turn, Done, unless}
use Rattle.rt_forms.specs.Reading.{left_of, left, or_end, up_to, IsUpTo, up_to_pair, IsUpToPair, before, IsBefore}
use Rattle.rt_forms.proofs.Laws.{Takes}
use Rattle.written.specs.Cuts.{bytes_of}
use Rattle.same_words.specs.Same.{Frame, SameFirst, SameRest, IsInFrame, Same, IsMoved}
use Rattle.same_words.specs.Values.{Equal, strict, IsLeftMoved, TurnsBy, behind_one}
use Rattle.same_words.proofs.Combining.{at_equal, left_put, no_words, same_length, rest_of, cut_alike, in_front, in_back, same_then, same_bind, same_choose, same_done, same_look_word, at_next, same_look, same_next, same_name, same_admit, same_one, same_check, same_refused, same_nothing, fits_self, fits_refused, fits_if, fits_at_line}

-- ---- up to a word, up to a pair

up_to_again : (last : List ℕ → Bool) (ps qs : List Place) → bytes_of qs ≡ bytes_of ps → IsUpTo last ps → IsUpTo last qs
up_to_again last [] qs e h = absurd h
up_to_again last (p ∷ ps) [] e h = absurd cc
up_to_again last (p ∷ ps) (q ∷ qs) e h =
    let w : q.word ≡ p.word = cc in
    let more : bytes_of qs ≡ bytes_of ps = cc in
    subst (λ (v : List ℕ). Which (last v) (qs ≡ []) (IsUpTo last qs)) (sym w) (by (last p.word) more (up_to_again last ps qs more) h)
  where
    by : (b : Bool) → bytes_of qs ≡ bytes_of ps → (IsUpTo last ps → IsUpTo last qs) → Which b (ps ≡ []) (IsUpTo last ps) → Which b (qs ≡ []) (IsUpTo last qs)
    by true m again g = no_words qs (m ∙ ap bytes_of g)
    by false m again g = again g

pub same_up_to : {E : Type 0} {f : Frame} (last : List ℕ → Bool) → Same f Equal (up_to {E = E} last) (up_to last)
same_up_to last = record { again = λ front front' rest rest' a e i t h. (a, refl, up_to_again last front front' e h) }

up_to_pair_again : (a b : List ℕ) (ps qs : List Place) → bytes_of qs ≡ bytes_of ps → IsUpToPair a b ps → IsUpToPair a b qs
up_to_pair_again a b [] qs e h = absurd h
up_to_pair_again a b (p ∷ []) qs e h = absurd h
up_to_pair_again a b (p ∷ p' ∷ ps) [] e h = absurd cc
up_to_pair_again a b (p ∷ p' ∷ ps) (q ∷ []) e h = absurd cc
up_to_pair_again a b (p ∷ p' ∷ ps) (q ∷ q' ∷ qs) e h =
    let w : q.word ≡ p.word = cc in
    let w' : q'.word ≡ p'.word = cc in
    let more : bytes_of qs ≡ bytes_of ps = cc in
    let tail : bytes_of (q' ∷ qs) ≡ bytes_of (p' ∷ ps) = cc in
    rw (w, w') (by (bytes_eq p.word a && bytes_eq p'.word b) more (up_to_pair_again a b (p' ∷ ps) (q' ∷ qs) tail) h)
  where
    by : (t : Bool) → bytes_of qs ≡ bytes_of ps → (IsUpToPair a b (p' ∷ ps) → IsUpToPair a b (q' ∷ qs)) → Which t (ps ≡ []) (IsUpToPair a b (p' ∷ ps)) → Which t (qs ≡ []) (IsUpToPair a b (q' ∷ qs))
    by true m again g = no_words qs (m ∙ ap bytes_of g)
    by false m again g = again g

pub takes_up_to : {E : Type 0} (last : List ℕ → Bool) → Takes (up_to {E = E} last)
takes_up_to last = record { some = λ front rest a h. go front h }
  where
    go : (ps : List Place) → IsUpTo last ps → 0 < length ps
    go [] h = absurd h
    go (p ∷ ps) h = omega arith

pub same_up_to_pair : {E : Type 0} {f : Frame} (a b : List ℕ) → Same f Equal (up_to_pair {E = E} a b) (up_to_pair a b)
same_up_to_pair a b = record { again = λ front front' rest rest' x e i t h. (x, refl, up_to_pair_again a b front front' e h) }

-- ---- up to a word that stays

-- a test that is the same of `+` as of `;`
or_end_again : (lax : Bool) (test : List ℕ → Bool) → test (codes "+") ≡ test (codes ";") → (p q : Option Place) → SameFirst lax p q → or_end test q ≡ or_end test p
or_end_again lax test t None None s = refl
or_end_again lax test t None (Some q) s = absurd s
or_end_again lax test t (Some p) None s = absurd s
or_end_again lax test t (Some p) (Some q) (inl e) = ap test e
or_end_again lax test t (Some p) (Some q) (inr e) = ap test e.2 ∙ t ∙ ap test (sym e.1)

before_again : (lax : Bool) (test : List ℕ → Bool) → test (codes "+") ≡ test (codes ";") → (ps qs : List Place) (rest rest' : List Lexeme) → bytes_of qs ≡ bytes_of ps → SameFirst lax (first_of rest) (first_of rest') → IsBefore test ps rest → IsBefore test qs rest'
before_again lax test t [] [] rest rest' e s h = or_end_again lax test t (first_of rest) (first_of rest') s ∙ h
before_again lax test t [] (q ∷ qs) rest rest' e s h = absurd cc
before_again lax test t (p ∷ ps) [] rest rest' e s h = absurd cc
before_again lax test t (p ∷ ps) (q ∷ qs) rest rest' e s h =
    let w : q.word ≡ p.word = cc in
    (ap test w ∙ h.0, before_again lax test t ps qs rest rest' (cc) s h.1)

pub same_before : {E : Type 0} {f : Frame} (test : List ℕ → Bool) → test (codes "+") ≡ test (codes ";") → Same f Equal (before {E = E} test) (before test)
same_before {f} test t = record { again = λ front front' rest rest' x e i r h. (x, refl, before_again f.lax test t front front' rest rest' e r.first h) }

-- ---- loops up to a word

pub same_unless : {E S T : Type 0} {f : Frame} {R : S → T → Type 0} (stops : Option Place → Bool) (body : S → Form E (Turn S)) (body' : T → Form E (Turn T)) (s : S) (t : T)
    → ((line first line' first' : ℕ) (word : List ℕ) → stops (Some (record { line = line'; first = first'; word = word })) ≡ stops (Some (record { line = line; first = first; word = word })))
    → (f.lax ≡ true → (line first line' first' : ℕ) → stops (Some (record { line = line'; first = first'; word = codes "+" })) ≡ stops (Some (record { line = line; first = first; word = codes ";" })))
    → R s t → Same f (TurnsBy R) (body s) (body' t) → Same f (TurnsBy R) (unless stops body s) (unless stops body' t)
same_unless {E} {S} {T} {f} {R} stops body body' s t word lax q b = same_then (SameFirst f.lax) look look _ _ same_look_word by
  where
    agree : (p p' : Option Place) → SameFirst f.lax p p' → stops p' ≡ stops p
    agree = at_next f (λ p p'. stops p' ≡ stops p) (record { none = refl; word = word; lax = lax })

    by : (p p' : Option Place) → SameFirst f.lax p p' → Same f (TurnsBy R) (choose (stops p) (done (Done s)) (body s)) (choose (stops p') (done (Done t)) (body' t))
    by p p' m = subst (λ (c : Bool). Same f (TurnsBy R) (choose (stops p) (done (Done s)) (body s)) (choose c (done (Done t)) (body' t))) (sym (agree p p' m)) (same_choose (stops p) _ _ _ _ (same_done _ _ q) b)

-- ---- how many words are left

-- so many words are left, in the first and in the second text
pub same_left : {E : Type 0} {f : Frame} → Same f (IsLeftMoved f) (left {E = E}) left
same_left {f} = record {
  again = λ front front' rest rest' n e i t h.
      let size = left_put front rest in
      let empty : length front ≡ 0 = ap length h.0 in
      (left_of rest', record { moved = omega (arith, t.left, h.1); from_low = omega (arith, i.from_low, h.1); to_high = omega (arith, i.to_high, h.1) }, (no_words front' (e ∙ ap bytes_of h.0), refl));
}

-- the number of the next word
pub same_here : {E B B' : Type 0} {f : Frame} {Q : B → B' → Type 0} (G : ℕ → Form E B) (G' : ℕ → Form E B') → ((a b : ℕ) → IsMoved f a b → Same f Q (G a) (G' b)) → Same f Q (left >>= (λ n. done (f.total - n)) >>= G) (left >>= (λ n. done (f.total + f.more - n)) >>= G')
same_here {f} G G' h = same_then (IsMoved f) _ _ G G' (same_then (IsLeftMoved f) left left _ _ same_left (λ m n t. same_done _ _ (record { moved = omega (arith, t.moved, t.from_low); from_low = omega (arith, t.from_low); to_high = omega (arith, t.to_high, t.from_low) }))) h

-- ---- behind a word at least, numbers are greater

pub same_behind : {E A B B' : Type 0} {f : Frame} {Q : B → B' → Type 0} (F F' : Form E A) (G : A → Form E B) (G' : A → Form E B') → Takes F → Same f Equal F F' → ((a : A) → Same (behind_one f) Q (G a) (G' a)) → Same f Q (F >>= G) (F' >>= G')
same_behind {E} {A} {B} {B'} {f} {Q} F F' G G' k s t = record { again = go }
  where
    go : (words words' : List Place) (rest rest' : List Lexeme) (b : B) → bytes_of words' ≡ bytes_of words → IsInFrame f words rest → SameRest f rest rest' → (F >>= G).takes words rest b → (b' : B') × Q b b' × (F' >>= G').takes words' rest' b'
    go words words' rest rest' b e i r h =
        let front = h.1 in
        let back = h.2 in
        let i' : IsInFrame f (front ++ back) rest = subst (λ (v : List Place). IsInFrame f v rest) h.3 i in
        let c = cut_alike front back words' (e ∙ ap bytes_of h.3) in
        let x = s.again front c.front' (put back rest) (put c.back' rest') h.0 c.same_front (in_front f front back rest i') (rest_of f back c.back' rest rest' c.same_back r) h.4 in
        let some = k.some front (put back rest) h.0 h.4 in
        let all = left_put (front ++ back) rest in
        let part = left_put back rest in
        let sum = length-append front back in
        let low = i'.from_low in
        let inside : IsInFrame (behind_one f) back rest = record { from_low = omega arith; to_high = i'.to_high } in
        let y = (at_equal G G' t h.0 x.0 x.1).again back c.back' rest rest' b c.same_back inside (record { first = r.first; left = r.left }) h.5 in
        (y.0, y.1, (x.0, c.front', c.back', c.words, x.2, y.2))

-- the word before
pub moved_back : {f : Frame} {a b : ℕ} → IsMoved (behind_one f) a b → IsMoved f (a - 1) (b - 1)
moved_back h = record { moved = omega (arith, h.moved, h.from_low); from_low = omega (arith, h.from_low); to_high = omega (arith, h.to_high) }

-- ---- before a word at least, both texts go on with the same

strict_rest : (f : Frame) (ps qs : List Place) (rest rest' : List Lexeme) → bytes_of qs ≡ bytes_of ps → 0 < length ps → SameRest f (put ps rest) (put qs rest') → SameRest (strict f) (put ps rest) (put qs rest')
strict_rest f [] qs rest rest' e some r = absurd (omega arith)
strict_rest f (p ∷ ps) [] rest rest' e some r = absurd cc
strict_rest f (p ∷ ps) (q ∷ qs) rest rest' e some r = record { first = inl cc; left = r.left }

-- one value of both, and the second form takes a word
pub same_ahead : {E A B B' : Type 0} {f : Frame} {Q : B → B' → Type 0} (F F' : Form E A) (G : A → Form E B) (G' : A → Form E B') → ((a : A) → Takes (G a)) → Same (strict f) Equal F F' → ((a : A) → Same f Q (G a) (G' a)) → Same f Q (F >>= G) (F' >>= G')
same_ahead {E} {A} {B} {B'} {f} {Q} F F' G G' k s t = record { again = go }
  where
    go : (words words' : List Place) (rest rest' : List Lexeme) (b : B) → bytes_of words' ≡ bytes_of words → IsInFrame f words rest → SameRest f rest rest' → (F >>= G).takes words rest b → (b' : B') × Q b b' × (F' >>= G').takes words' rest' b'
    go words words' rest rest' b e i r h =
        let front = h.1 in
        let back = h.2 in
        let i' : IsInFrame f (front ++ back) rest = subst (λ (v : List Place). IsInFrame f v rest) h.3 i in
        let c = cut_alike front back words' (e ∙ ap bytes_of h.3) in
        let some = (k h.0).some back rest b h.5 in
        let next = strict_rest f back c.back' rest rest' c.same_back some (rest_of f back c.back' rest rest' c.same_back r) in
        let part = in_front f front back rest i' in
        let x = s.again front c.front' (put back rest) (put c.back' rest') h.0 c.same_front (record { from_low = part.from_low; to_high = part.to_high }) next h.4 in
        let y = (at_equal G G' t h.0 x.0 x.1).again back c.back' rest rest' b c.same_back (in_back f front back rest i') r h.5 in
        (y.0, y.1, (x.0, c.front', c.back', c.words, x.2, y.2))

-- ---- rules for `search`

pub ruleset same = (same_bind, same_next, same_name, same_look, same_admit, same_one, same_check, same_refused, same_done, same_choose, same_nothing, same_up_to, same_up_to_pair, same_before, fits_self, fits_refused, fits_if, fits_at_line)
