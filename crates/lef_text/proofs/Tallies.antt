-- What holds of each value that a form takes, by the number of its words.
use Rattle.std.proofs.Common.{◌≡◌, ◌∙◌, ◌≤◌, ◌+◌, sym, ap, subst, ℕ, Bool, true, false, zero, suc, List, length, arith}
use Rattle.std.proofs.lemmas.List.{length-append}
use Rattle.rt_forms.specs.Lexeme.{Lexeme, Place}
use Rattle.rt_forms.specs.Form.{Form, next, done, look, nothing, ◌>>=◌, choose, loop, unless, no_word, text, Turn, Turns, More, Done}
use Rattle.lef_text.proofs.Yields.{Yields, OfTurn, yields_done}

pub record Tallies {E A : Type 0} (F : Form E A) (P : ℕ → A → Type 0) : Type 0 where
  pub all : (words : List Place) (rest : List Lexeme) (a : A) → F.takes words rest a → P (length words) a

-- what holds with some words read holds with more
pub record Rises {A : Type 0} (P : ℕ → A → Type 0) : Type 0 where
  pub more : (m n : ℕ) (a : A) → m ≤ n → P m a → P n a

-- a turn with so many words read
abbrev pub TurnAt : {S : Type 0} → (ℕ → S → Type 0) → ℕ → Turn S → Type 0
TurnAt P n t = OfTurn (P n) (P n) t

turn_rises : {S : Type 0} (P : ℕ → S → Type 0) → Rises P → (m n : ℕ) (t : Turn S) → m ≤ n → TurnAt P m t → TurnAt P n t
turn_rises P r m n (More s) le h = r.more m n s le h
turn_rises P r m n (Done s) le h = r.more m n s le h

-- what holds whatever the number of words is
pub tallies_turn : {E S : Type 0} (F : Form E (Turn S)) (P : ℕ → S → Type 0) (m : ℕ) → Rises P → Yields F (TurnAt P m) → Tallies F (λ n. TurnAt P (m + n))
tallies_turn F P m r y = record { all = λ words rest a h. turn_rises P r m (m + length words) a (omega arith) (y.all words rest a h) }

pub tallies_bind : {E A B : Type 0} (F : Form E A) (G : A → Form E B) (P : ℕ → A → Type 0) (Q : ℕ → B → Type 0) → Tallies F P → ((n : ℕ) (a : A) → P n a → Tallies (G a) (λ k. Q (n + k))) → Tallies (F >>= G) Q
tallies_bind F G P Q f g = record {
  all = λ words rest b h.
      let e : length words ≡ length h.1 + length h.2 = ap length h.3 ∙ length-append h.1 h.2 in
      subst (λ (n : ℕ). Q n b) (sym e) ((g (length h.1) h.0 (f.all h.1 _ h.0 h.4)).all h.2 rest b h.5);
}

pub tallies_then : {E A B : Type 0} (F : Form E A) (G : A → Form E B) (Q : ℕ → B → Type 0) → ((n : ℕ) (a : A) → Tallies (G a) (λ k. Q (n + k))) → Tallies (F >>= G) Q
tallies_then F G Q g = tallies_bind F G (λ n a. Unit {0}) Q (record { all = λ words rest a h. tt }) (λ n a h. g n a)

pub tallies_next : {E A : Type 0} (G : Place → Form E A) (Q : ℕ → A → Type 0) → ((w : Place) → Tallies (G w) (λ k. Q (1 + k))) → Tallies (next >>= G) Q
tallies_next G Q g = tallies_bind next G (λ n w. n ≡ 1) Q (record { all = λ words rest a h. ap length h }) (λ n w e. subst (λ (m : ℕ). Tallies (G w) (λ k. Q (m + k))) (sym e) (g w))

pub tallies_done : {E A : Type 0} (a : A) (P : ℕ → A → Type 0) → ((n : ℕ) → P n a) → Tallies (done {E = E} a) P
tallies_done {E} a P p = record { all = λ words rest b h. (yields_done {E = E} a (P (length words)) (p (length words))).all words rest b h }

-- both
pub tallies_both : {E A : Type 0} (F : Form E A) (P : ℕ → A → Type 0) (Q : A → Type 0) → Tallies F P → Yields F Q → Tallies F (λ n a. P n a × Q a)
tallies_both F P Q t y = record { all = λ words rest a h. (t.all words rest a h, y.all words rest a h) }

-- ---- loops

turns_tally : {E S : Type 0} (body : S → Form E (Turn S)) (P : ℕ → S → Type 0) → ((m : ℕ) (s : S) → P m s → Tallies (body s) (λ n. TurnAt P (m + n)))
    → (k m : ℕ) (s t : S) (words : List Place) (rest : List Lexeme) → P m s → Turns body k s words rest t → P (m + length words) t
turns_tally body P y zero m s t words rest p h = (y m s p).all words rest (Done t) h
turns_tally body P y (suc k) m s t words rest p h =
    let e : m + length words ≡ (m + length h.1) + length h.2 = omega (arith, ap length h.3, length-append h.1 h.2) in
    subst (λ (n : ℕ). P n t) (sym e) (turns_tally body P y k (m + length h.1) h.0 t h.2 rest ((y m s p).all h.1 _ (More h.0) h.4) h.5)

pub tallies_loop : {E S : Type 0} (body : S → Form E (Turn S)) (s : S) (P : ℕ → S → Type 0) (m : ℕ) → ((n : ℕ) (u : S) → P n u → Tallies (body u) (λ k. TurnAt P (n + k))) → P m s → Tallies (loop body s) (λ n. P (m + n))
tallies_loop body s P m y p = record { all = λ words rest t h. turns_tally body P y h.0 m s t words rest p h.1 }

unless_tallies : {E S : Type 0} (b : Bool) (body : S → Form E (Turn S)) (u : S) (P : ℕ → S → Type 0) (m : ℕ) → Rises P → P m u → Tallies (body u) (λ n. TurnAt P (m + n)) → Tallies (choose b (done (Done u)) (body u)) (λ n. TurnAt P (m + n))
unless_tallies {E} true body u P m r p y = record { all = (tallies_done {E = E} (Done u) (λ n. TurnAt P (m + n)) (λ n. r.more m (m + n) u (omega arith) p)).all }
unless_tallies false body u P m r p y = record { all = y.all }

-- more words read before are as good
tallies_later : {E S : Type 0} (F : Form E (Turn S)) (P : ℕ → S → Type 0) (m n : ℕ) → Rises P → Tallies F (λ k. TurnAt P (m + k)) → Tallies F (λ k. TurnAt P (m + (n + k)))
tallies_later F P m n r y = record { all = λ words rest t h. turn_rises P r (m + length words) (m + (n + length words)) t (omega arith) (y.all words rest t h) }

pub tallies_text : {E S : Type 0} (body : S → Form E (Turn S)) (s : S) (P : ℕ → S → Type 0) → Rises P → ((n : ℕ) (u : S) → P n u → Tallies (body u) (λ k. TurnAt P (n + k))) → P 0 s → Tallies (text body s) P
tallies_text {E} body s P r y p =
    let turn : (m : ℕ) (u : _) → P m u → Tallies (unless no_word body u) (λ k. TurnAt P (m + k)) = λ m u q.
    tallies_then look _ (λ k. TurnAt P (m + k)) (λ n w. tallies_later (choose (no_word w) (done (Done u)) (body u)) P m n r (unless_tallies (no_word w) body u P m r q (y m u q))) in
    tallies_bind (loop (unless no_word body) s) _ P P (record { all = λ words rest t h. r.more (0 + length words) (length words) t (omega arith) ((tallies_loop (unless no_word body) s P 0 turn p).all words rest t h) })
    (λ n t q. tallies_then nothing _ (λ k. P (n + k)) (λ j u. tallies_done {E = E} t (λ k. P (n + (j + k))) (λ k. r.more n (n + (j + k)) t (omega arith) q)))
