-- Whole texts: what a reader that gives what reading gives promises by the grammar.
use Rattle.std.proofs.Common.{◌≡◌, ℕ, true, List, [], ◌∷◌, ◌++◌, Result, Ok, Err, refl, sym, ap, subst, ◌∙◌}
use Rattle.std.proofs.lemmas.List.{append-nil}
use Rattle.rt_base.specs.declared.token.Token.{Token}
use Rattle.rt_forms.specs.Lexeme.{Lexeme, At, End, Place, put, is_end, ended, places, last_line, lexemes}
use Rattle.rt_forms.specs.Form.{Faults, Form, whole, Turn, text, loop, unless, no_word}
use Rattle.rt_forms.specs.Clauses.{Looks, ReadsText}
use Rattle.rt_forms.proofs.Laws.{Lawful, ok_is}

-- the form stands at the end of a text alone
pub record IsWhole {E A : Type 0} (F : Form E A) : Type 0 where
  pub at_end : (front : List Place) (rest : List Lexeme) (a : A) → F.takes front rest a → is_end rest ≡ true

pub whole_is : {E A : Type 0} (F : Form E A) → IsWhole (whole F)
whole_is F = record { at_end = λ front rest a h. let e = h.5.4.1 in rw h.5.5.0 at e }

pub text_is : {E S : Type 0} (body : S → Form E (Turn S)) (s : S) → IsWhole (text body s)
text_is body s = whole_is (loop (unless no_word body) s)

abbrev place : ℕ → ℕ → List ℕ → Place
place line first word = record { line = line; first = first; word = word }

same_place : (p q : Place) → At p.line p.first p.word ≡ At q.line q.first q.word → p ≡ q
same_place p q h =
    let l : p.line ≡ q.line = cc in
    let f : p.first ≡ q.first = cc in
    let w : p.word ≡ q.word = cc in
    ap (λ (n : ℕ). place n p.first p.word) l ∙ ap (λ (n : ℕ). place q.line n p.word) f ∙ ap (place q.line q.first) w

put_split : (front words : List Place) (last : ℕ) (vs : List Lexeme) → ended words last ≡ put front vs → (back : List Place) × (words ≡ front ++ back) × (vs ≡ ended back last)
put_split [] words last vs h = (words, refl, sym h)
put_split (p ∷ front) [] last vs h = absurd cc
put_split (p ∷ front) (q ∷ words) last vs h =
    let e : At q.line q.first q.word ≡ At p.line p.first p.word = cc in
    let r : ended words last ≡ put front vs = cc in
    let s = put_split front words last vs r in
    (s.0, ap (λ (x : Place). x ∷ words) (same_place q p e) ∙ ap (λ (x : List Place). p ∷ x) s.1, s.2)

no_more : (back : List Place) (last : ℕ) → is_end (ended back last) ≡ true → back ≡ []
no_more [] last h = refl
no_more (p ∷ back) last h = absurd cc

found_whole : {E A : Type 0} (F : Form E A) → Lawful F → IsWhole F → (f : Faults E) (words : List Place) (last : ℕ) (new : List Lexeme) (a : A) → F.read f (ended words last) ≡ Ok (a, new) → F.takes words (End last ∷ []) a
found_whole F l w f words last new a h =
    let m = l.found f (ended words last) new a h in
    let s = put_split m.0 words last new m.1 in
    let none = no_more s.0 last (ap is_end (sym s.2) ∙ w.at_end m.0 new a m.2) in
    let front : words ≡ m.0 = s.1 ∙ ap (λ (b : List Place). m.0 ++ b) none ∙ append-nil m.0 in
    let back : new ≡ End last ∷ [] = s.2 ∙ ap (λ (b : List Place). ended b last) none in
    rw front (subst (λ (v : List Lexeme). F.takes m.0 v a) back m.2)

-- the four clauses of the reader of a whole text
pub reads_text : {E X Y : Type 0} (f : Faults E) (view : X → Y) (F : Form E Y) → Lawful F → IsWhole F → (txt : List ℕ) (tokens : List Token) (new : List Lexeme) (r : Result X E) → Looks f view r (lexemes txt tokens) new F → ReadsText f view F txt tokens r
reads_text {E} {X} {Y} f view F l w txt tokens new (Ok x) h =
    let last = last_line tokens in
    record {
      found = found_whole F l w f (places txt tokens) last new (view x) h.0;
      only = λ y t.
          let p = ok_is {E = E} (y, End last ∷ []) (view x, new) (sym (l.only f (places txt tokens) (End last ∷ []) y t) ∙ h.0) in
          ap (λ (q : Y × List Lexeme). Ok q.0) p;
      refused = tt;
      refuses = λ e t. let p = sym (l.refuses f (lexemes txt tokens) e t) ∙ h.0 in absurd cc;
    }
reads_text f view F l w txt tokens new (Err x) h =
    let last = last_line tokens in
    record {
      found = tt;
      only = λ y t n. let p = sym (l.only f (places txt tokens) (End last ∷ []) y t) ∙ h n in absurd cc;
      refused = λ n. l.refused f (lexemes txt tokens) x (h n);
      refuses = λ e t n. let p = sym (l.refuses f (lexemes txt tokens) e t) ∙ h n in cc;
    }
