-- Forms that are built of forms that take the same words take the same words.
use Rattle.std.proofs.Common.{◌≡◌, ℕ, Bool, true, false, zero, suc, ◌+◌, List, [], ◌∷◌, ◌++◌, length, Result, Ok, Err, Option, Some, None, refl, sym, ap, subst, ◌∙◌, arith, inl, inr, if◌then◌else◌, codes}
use Rattle.std.proofs.lemmas.List.{length-append}
use Rattle.rt_forms.specs.Lexeme.{Lexeme, At, End, Place, put, is_end, first_of}
use Rattle.rt_forms.specs.Form.{Form, next, one, admit, check, done, look, nothing, ◌>>=◌, choose, Turn, More, Done, Turns, loop}
use Rattle.rt_forms.specs.Reading.{left_of, if_so, is_name_word, a_name, at_line}
use Rattle.written.specs.Cuts.{bytes_of}
use Rattle.same_words.specs.Same.{Frame, SameFirst, SameRest, IsInFrame, Same}
use Rattle.same_words.specs.Values.{Equal, IsSameWord, TurnsBy, Fits}

-- ---- words before the rest

pub left_put : (ps : List Place) (rest : List Lexeme) → left_of (put ps rest) ≡ length ps + left_of rest
left_put [] rest = omega arith
left_put (p ∷ ps) rest = let h = left_put ps rest in omega arith

pub same_length : (ps qs : List Place) → bytes_of qs ≡ bytes_of ps → length qs ≡ length ps
same_length [] [] h = refl
same_length [] (q ∷ qs) h = absurd cc
same_length (p ∷ ps) [] h = absurd cc
same_length (p ∷ ps) (q ∷ qs) h = ap suc (same_length ps qs cc)

-- the same words of the second text before the same rest
pub rest_of : (f : Frame) (ps qs : List Place) (rest rest' : List Lexeme) → bytes_of qs ≡ bytes_of ps → SameRest f rest rest' → SameRest f (put ps rest) (put qs rest')
rest_of f [] [] rest rest' h s = s
rest_of f [] (q ∷ qs) rest rest' h s = absurd cc
rest_of f (p ∷ ps) [] rest rest' h s = absurd cc
rest_of f (p ∷ ps) (q ∷ qs) rest rest' h s =
    let same : bytes_of qs ≡ bytes_of ps = cc in
    let more = rest_of f ps qs rest rest' same s in
    record { first = inl cc; left = omega (arith, more.left) }

-- the words of the second text are cut as those of the first
pub record CutAlike (front back words' : List Place) : Type 0 where
  pub front' : List Place
  pub back' : List Place
  pub words : words' ≡ front' ++ back'
  pub same_front : bytes_of front' ≡ bytes_of front
  pub same_back : bytes_of back' ≡ bytes_of back

one_more : (p q : Place) (front back words' : List Place) → q.word ≡ p.word → CutAlike front back words' → CutAlike (p ∷ front) back (q ∷ words')
one_more p q front back words' e c = record { front' = q ∷ c.front'; back' = c.back'; words = (let h = c.words in cc); same_front = (let h = c.same_front in cc); same_back = c.same_back }

pub cut_alike : (front back words' : List Place) → bytes_of words' ≡ bytes_of (front ++ back) → CutAlike front back words'
cut_alike [] back words' h = record { front' = []; back' = words'; words = refl; same_front = refl; same_back = h }
cut_alike (p ∷ front) back [] h = absurd cc
cut_alike (p ∷ front) back (q ∷ words') h = one_more p q front back words' (cc) (cut_alike front back words' cc)

pub in_front : (f : Frame) (front back : List Place) (rest : List Lexeme) → IsInFrame f (front ++ back) rest → IsInFrame f front (put back rest)
in_front f front back rest h =
    let a = left_put (front ++ back) rest in
    let b = left_put front (put back rest) in
    let c = left_put back rest in
    let l = length-append front back in
    record { from_low = omega (arith, h.from_low); to_high = omega (arith, h.to_high) }

pub in_back : (f : Frame) (front back : List Place) (rest : List Lexeme) → IsInFrame f (front ++ back) rest → IsInFrame f back rest
in_back f front back rest h =
    let a = left_put (front ++ back) rest in
    let c = left_put back rest in
    let l = length-append front back in
    record { from_low = omega (arith, h.from_low); to_high = h.to_high }

-- ---- one form after the other, and a choice

-- values related by R
pub same_then : {E A A' B B' : Type 0} {f : Frame} {Q : B → B' → Type 0} (R : A → A' → Type 0) (F : Form E A) (F' : Form E A') (G : A → Form E B) (G' : A' → Form E B') → Same f R F F' → ((a : A) (a' : A') → R a a' → Same f Q (G a) (G' a')) → Same f Q (F >>= G) (F' >>= G')
same_then {E} {A} {A'} {B} {B'} {f} {Q} R F F' G G' s t = record { again = go }
  where
    go : (words words' : List Place) (rest rest' : List Lexeme) (b : B) → bytes_of words' ≡ bytes_of words → IsInFrame f words rest → SameRest f rest rest' → (F >>= G).takes words rest b → (b' : B') × Q b b' × (F' >>= G').takes words' rest' b'
    go words words' rest rest' b e i r h =
        let front = h.1 in
        let back = h.2 in
        let i' : IsInFrame f (front ++ back) rest = subst (λ (v : List Place). IsInFrame f v rest) h.3 i in
        let c = cut_alike front back words' (e ∙ ap bytes_of h.3) in
        let x = s.again front c.front' (put back rest) (put c.back' rest') h.0 c.same_front (in_front f front back rest i') (rest_of f back c.back' rest rest' c.same_back r) h.4 in
        let y = (t h.0 x.0 x.1).again back c.back' rest rest' b c.same_back (in_back f front back rest i') r h.5 in
        (y.0, y.1, (x.0, c.front', c.back', c.words, x.2, y.2))

-- one value of both
pub at_equal : {E A B B' : Type 0} {f : Frame} {Q : B → B' → Type 0} (G : A → Form E B) (G' : A → Form E B') → ((a : A) → Same f Q (G a) (G' a)) → (a a' : A) → Equal a a' → Same f Q (G a) (G' a')
at_equal {f} {Q} G G' t a a' e = subst (λ x. Same f Q (G a) (G' x)) (sym e) (t a)

pub same_bind : {E A B B' : Type 0} {f : Frame} {Q : B → B' → Type 0} (F F' : Form E A) (G : A → Form E B) (G' : A → Form E B') → Same f Equal F F' → ((a : A) → Same f Q (G a) (G' a)) → Same f Q (F >>= G) (F' >>= G')
same_bind F F' G G' s t = same_then Equal F F' G G' s (at_equal G G' t)

pub same_choose : {E A A' : Type 0} {f : Frame} {R : A → A' → Type 0} (b : Bool) (F G : Form E A) (F' G' : Form E A') → Same f R F F' → Same f R G G' → Same f R (choose b F G) (choose b F' G')
same_choose true F G F' G' s t = record { again = λ front front' rest rest' a e i r h. s.again front front' rest rest' a e i r h }
same_choose false F G F' G' s t = record { again = λ front front' rest rest' a e i r h. t.again front front' rest rest' a e i r h }

-- ---- one word

pub no_words : (ps : List Place) → bytes_of ps ≡ [] → ps ≡ []
no_words [] h = refl
no_words (p ∷ ps) h = absurd cc

-- one word of both
pub record OneWord (p : Place) (ps : List Place) : Type 0 where
  pub place : Place
  pub words : ps ≡ place ∷ []
  pub same : place.word ≡ p.word

pub one_word : (p : Place) (ps : List Place) → bytes_of ps ≡ p.word ∷ [] → OneWord p ps
one_word p [] h = absurd cc
one_word p (q ∷ ps) h = record { place = q; words = ap (λ (v : List Place). q ∷ v) (no_words ps cc); same = cc }

pub same_next_word : {E : Type 0} {f : Frame} → Same f IsSameWord (next {E = E}) next
same_next_word = record {
  again = λ front front' rest rest' a e i r h.
      let w = one_word a front' (e ∙ ap bytes_of h) in (w.place, w.same, w.words);
}

-- one word, wherever it stands in both
pub at_places : (P : Place → Place → Type 0) → ((line first line' first' : ℕ) (word : List ℕ) → P (record { line = line; first = first; word = word }) (record { line = line'; first = first'; word = word })) → (p q : Place) → q.word ≡ p.word → P p q
at_places P h p q e =
    let at : P p (record { line = q.line; first = q.first; word = p.word }) = h p.line p.first q.line q.first p.word in
    subst (λ (w : List ℕ). P p (record { line = q.line; first = q.first; word = w })) (sym e) at

pub same_next : {E B B' : Type 0} {f : Frame} {Q : B → B' → Type 0} (G : Place → Form E B) (G' : Place → Form E B') → ((line first line' first' : ℕ) (word : List ℕ) → Same f Q (G (record { line = line; first = first; word = word })) (G' (record { line = line'; first = first'; word = word }))) → Same f Q (next >>= G) (next >>= G')
same_next {f} {Q} G G' h = same_then IsSameWord next next G G' same_next_word (at_places (λ p q. Same f Q (G p) (G' q)) h)

pub same_name_word : {E : Type 0} {f : Frame} → Same f IsSameWord (a_name {E = E}) a_name
same_name_word = record {
  again = λ front front' rest rest' a e i r h.
      let w = one_word h.0 front' (e ∙ ap bytes_of h.1) in
      let n = named h.0 a w.place w.same h.2 in
      (w.place, n.0, (w.place, w.words, n.1));
}
  where
    named : (p a q : Place) → q.word ≡ p.word → if_so (is_name_word p.word) p ≡ Some a → (q.word ≡ a.word) × (if_so (is_name_word q.word) q ≡ Some q)
    named p a q e h = by (is_name_word p.word) refl h
      where
        by : (b : Bool) → is_name_word p.word ≡ b → if_so b p ≡ Some a → (q.word ≡ a.word) × (if_so (is_name_word q.word) q ≡ Some q)
        by true t g = let same : p ≡ a = cc in (rw (← same) e, rw (e, t) refl)
        by false t g = absurd cc

pub same_name : {E B B' : Type 0} {f : Frame} {Q : B → B' → Type 0} (G : Place → Form E B) (G' : Place → Form E B') → ((line first line' first' : ℕ) (word : List ℕ) → Same f Q (G (record { line = line; first = first; word = word })) (G' (record { line = line'; first = first'; word = word }))) → Same f Q (a_name >>= G) (a_name >>= G')
same_name {f} {Q} G G' h = same_then IsSameWord a_name a_name G G' same_name_word (at_places (λ p q. Same f Q (G p) (G' q)) h)

-- the meaning of a word is one, wherever it stands
pub same_admit : {E A : Type 0} {f : Frame} (m m' : Place → Option A) → ((line first line' first' : ℕ) (word : List ℕ) → m' (record { line = line'; first = first'; word = word }) ≡ m (record { line = line; first = first; word = word })) → Same f Equal (admit {E = E} m) (admit m')
same_admit m m' s = record {
  again = λ front front' rest rest' a e i r h.
      let w = one_word h.0 front' (e ∙ ap bytes_of h.1) in
      let x : m' w.place ≡ m h.0 = at_places (λ p q. m' q ≡ m p) s h.0 w.place w.same in
      (a, refl, (w.place, w.words, x ∙ h.2));
}

pub same_one : {E A : Type 0} {f : Frame} (test test' : Place → Result A E) → ((line first line' first' : ℕ) (word : List ℕ) → Fits (test (record { line = line; first = first; word = word })) (test' (record { line = line'; first = first'; word = word }))) → Same f Equal (one test) (one test')
same_one test test' s = record {
  again = λ front front' rest rest' a e i r h.
      let w = one_word h.0 front' (e ∙ ap bytes_of h.1) in
      let x : Fits (test h.0) (test' w.place) = at_places (λ p q. Fits (test p) (test' q)) s h.0 w.place w.same in
      (a, refl, (w.place, w.words, x.value a h.2));
}

-- ---- tests

pub fits_self : {A E : Type 0} (r : Result A E) → Fits r r
fits_self r = record { value = λ a h. h }

pub fits_refused : {A E : Type 0} (e : E) (r : Result A E) → Fits (Err e) r
fits_refused e r = record { value = λ a h. absurd cc }

pub fits_if : {A E : Type 0} (b : Bool) (r s r' s' : Result A E) → Fits r r' → Fits s s' → Fits (if b then r else s) (if b then r' else s')
fits_if true r s r' s' h g = record { value = λ a e. h.value a e }
fits_if false r s r' s' h g = record { value = λ a e. g.value a e }

pub fits_at_line : {E N A : Type 0} (fault : ℕ → N → E) (line line' : ℕ) (r : Result A N) → Fits (at_line fault line r) (at_line fault line' r)
fits_at_line fault line line' (Ok a) = fits_self _
fits_at_line fault line line' (Err e) = fits_refused _ _

-- ---- no word

pub same_check : {E A : Type 0} {f : Frame} (r r' : Result A E) → Fits r r' → Same f Equal (check r) (check r')
same_check r r' s = record { again = λ front front' rest rest' a e i t h. (a, refl, (no_words front' (e ∙ ap bytes_of h.0), s.value a h.1)) }

-- nothing is taken where it is refused
pub same_refused : {E A B : Type 0} {f : Frame} {R : A → B → Type 0} (e : E) (G : Form E B) → Same f R (check (Err e)) G
same_refused e G = record { again = λ front front' rest rest' a q i t h. absurd (let g = h.1 in cc) }

pub same_done : {E A B : Type 0} {f : Frame} {R : A → B → Type 0} (a : A) (b : B) → R a b → Same f R (done {E = E} a) (done b)
same_done {A} {B} {R} a b s = record { again = λ front front' rest rest' x e i t h. (b, subst (λ (y : A). R y b) (let g = h.1 in cc) s, (no_words front' (e ∙ ap bytes_of h.0), refl)) }

pub same_end : (lax : Bool) (rest rest' : List Lexeme) → SameFirst lax (first_of rest) (first_of rest') → is_end rest' ≡ is_end rest
same_end lax [] [] s = refl
same_end lax [] (End l ∷ ws) s = refl
same_end lax [] (At l n w ∷ ws) s = absurd s
same_end lax (End k ∷ vs) [] s = refl
same_end lax (End k ∷ vs) (End l ∷ ws) s = refl
same_end lax (End k ∷ vs) (At l n w ∷ ws) s = absurd s
same_end lax (At k m v ∷ vs) [] s = absurd s
same_end lax (At k m v ∷ vs) (End l ∷ ws) s = absurd s
same_end lax (At k m v ∷ vs) (At l n w ∷ ws) s = refl

pub same_nothing : {E : Type 0} {f : Frame} → Same f Equal (nothing {E = E}) nothing
same_nothing {f} = record { again = λ front front' rest rest' a e i t h. (a, refl, (no_words front' (e ∙ ap bytes_of h.0), same_end f.lax rest rest' t.first ∙ h.1)) }

-- ---- the next word, which stays

-- the next word at any places, and where the second text may go on with `+` for a `;` of the first
pub record AtNext (f : Frame) (P : Option Place → Option Place → Type 0) : Type 0 where
  pub none : P None None
  pub word : (line first line' first' : ℕ) (word : List ℕ) → P (Some (record { line = line; first = first; word = word })) (Some (record { line = line'; first = first'; word = word }))
  pub lax : f.lax ≡ true → (line first line' first' : ℕ) → P (Some (record { line = line; first = first; word = codes ";" })) (Some (record { line = line'; first = first'; word = codes "+" }))

pub at_next : (f : Frame) (P : Option Place → Option Place → Type 0) → AtNext f P → (p q : Option Place) → SameFirst f.lax p q → P p q
at_next f P h None None s = h.none
at_next f P h None (Some q) s = absurd s
at_next f P h (Some p) None s = absurd s
at_next f P h (Some p) (Some q) (inl e) = at_places (λ p q. P (Some p) (Some q)) h.word p q e
at_next f P h (Some p) (Some q) (inr e) =
    let x : P (Some (record { line = p.line; first = p.first; word = codes ";" })) (Some (record { line = q.line; first = q.first; word = codes "+" })) = h.lax e.0 p.line p.first q.line q.first in
    let y : P (Some p) (Some (record { line = q.line; first = q.first; word = codes "+" })) = subst (λ (w : List ℕ). P (Some (record { line = p.line; first = p.first; word = w })) (Some (record { line = q.line; first = q.first; word = codes "+" }))) (sym e.1) x in
    subst (λ (w : List ℕ). P (Some p) (Some (record { line = q.line; first = q.first; word = w }))) (sym e.2) y

pub same_look_word : {E : Type 0} {f : Frame} → Same f (SameFirst f.lax) (look {E = E}) look
same_look_word {f} = record { again = λ front front' rest rest' a e i t h. (first_of rest', subst (λ (x : Option Place). SameFirst f.lax x (first_of rest')) h.1 t.first, (no_words front' (e ∙ ap bytes_of h.0), refl)) }

pub same_look : {E B B' : Type 0} {f : Frame} {Q : B → B' → Type 0} (G : Option Place → Form E B) (G' : Option Place → Form E B') → Same f Q (G None) (G' None) → ((line first line' first' : ℕ) (word : List ℕ) → Same f Q (G (Some (record { line = line; first = first; word = word }))) (G' (Some (record { line = line'; first = first'; word = word })))) → ((line first line' first' : ℕ) → Same f Q (G (Some (record { line = line; first = first; word = codes ";" }))) (G' (Some (record { line = line'; first = first'; word = codes "+" })))) → Same f Q (look >>= G) (look >>= G')
same_look {f} {Q} G G' none word lax = same_then (SameFirst f.lax) look look G G' same_look_word (at_next f (λ p q. Same f Q (G p) (G' q)) (record { none = none; word = word; lax = λ l. lax }))

-- ---- loops

same_turns : {E S T : Type 0} (f : Frame) (R : S → T → Type 0) (body : S → Form E (Turn S)) (body' : T → Form E (Turn T)) → ((s : S) (t : T) → R s t → Same f (TurnsBy R) (body s) (body' t)) → (n : ℕ) (s : S) (t : T) → R s t → (words words' : List Place) (rest rest' : List Lexeme) (u : S) → bytes_of words' ≡ bytes_of words → IsInFrame f words rest → SameRest f rest rest' → Turns body n s words rest u → (v : T) × R u v × Turns body' n t words' rest' v
same_turns {E} {S} {T} f R body body' b zero s t q words words' rest rest' u e i r h =
    let x = (b s t q).again words words' rest rest' (Done u) e i r h in
    ended x.0 x.1 x.2
  where
    ended : (y : Turn T) → TurnsBy R (Done u) y → (body' t).takes words' rest' y → (v : T) × R u v × (body' t).takes words' rest' (Done v)
    ended (More v) w g = absurd w
    ended (Done v) w g = (v, w, g)
same_turns {E} {S} {T} f R body body' b (suc n) s t q words words' rest rest' u e i r h =
    let i' : IsInFrame f (h.1 ++ h.2) rest = subst (λ (v : List Place). IsInFrame f v rest) h.3 i in
    let c = cut_alike h.1 h.2 words' (e ∙ ap bytes_of h.3) in
    let x = (b s t q).again h.1 c.front' (put h.2 rest) (put c.back' rest') (More h.0) c.same_front (in_front f h.1 h.2 rest i') (rest_of f h.2 c.back' rest rest' c.same_back r) h.4 in
    goes_on h.0 c.front' c.back' c.words x.0 x.1 x.2 (λ v w. same_turns f R body body' b n h.0 v w h.2 c.back' rest rest' u c.same_back (in_back f h.1 h.2 rest i') r h.5)
  where
    goes_on : (s' : S) (front' back' : List Place) → words' ≡ front' ++ back' → (y : Turn T) → TurnsBy R (More s') y → (body' t).takes front' (put back' rest') y
        → ((v : T) → R s' v → (w : T) × R u w × Turns body' n v back' rest' w) → (v : T) × R u v × Turns body' (suc n) t words' rest' v
    goes_on s' front' back' l (Done v) w g again = absurd w
    goes_on s' front' back' l (More v) w g again = let z = again v w in (z.0, z.1, (v, front', back', l, g, z.2))

pub same_loop : {E S T : Type 0} {f : Frame} {R : S → T → Type 0} (body : S → Form E (Turn S)) (body' : T → Form E (Turn T)) (s : S) (t : T) → ((s : S) (t : T) → R s t → Same f (TurnsBy R) (body s) (body' t)) → R s t → Same f R (loop body s) (loop body' t)
same_loop {f} {R} body body' s t b q = record {
  again = λ words words' rest rest' u e i r h.
      let x = same_turns f R body body' b h.0 s t q words words' rest rest' u e i r h.1 in
      (x.0, x.1, (h.0, x.2));
}

-- states of both are one
pub same_equal_loop : {E S : Type 0} {f : Frame} (body body' : S → Form E (Turn S)) (s : S) → ((s : S) → Same f (TurnsBy Equal) (body s) (body' s)) → Same f Equal (loop body s) (loop body' s)
same_equal_loop body body' s b = same_loop body body' s s (at_equal body body' b) refl
