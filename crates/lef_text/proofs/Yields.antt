-- What holds of each value that a form takes.
use Rattle.std.proofs.Common.{◌≡◌, subst, ℕ, Bool, true, false, zero, suc, List, Result, Ok, Err}
use Rattle.rt_forms.specs.Lexeme.{Lexeme, Place}
use Rattle.rt_forms.specs.Form.{Form, one, check, done, look, nothing, ◌>>=◌, choose, loop, unless, no_word, text, Turn, Turns, More, Done}

pub record Yields {E A : Type 0} (F : Form E A) (P : A → Type 0) : Type 0 where
  pub all : (words : List Place) (rest : List Lexeme) (a : A) → F.takes words rest a → P a

abbrev pub Anything : {A : Type 0} → A → Type 0
Anything a = Unit {0}

pub yields_any : {E A : Type 0} (F : Form E A) → Yields F Anything
yields_any F = record { all = λ words rest a h. tt }

pub yields_bind : {E A B : Type 0} (F : Form E A) (G : A → Form E B) (P : A → Type 0) (Q : B → Type 0) → Yields F P → ((a : A) → P a → Yields (G a) Q) → Yields (F >>= G) Q
yields_bind F G P Q y g = record { all = λ words rest b h. (g h.0 (y.all h.1 _ h.0 h.4)).all h.2 rest b h.5 }

-- a first form of which nothing is used
pub yields_then : {E A B : Type 0} (F : Form E A) (G : A → Form E B) (Q : B → Type 0) → ((a : A) → Yields (G a) Q) → Yields (F >>= G) Q
yields_then F G Q g = record { all = λ words rest b h. (g h.0).all h.2 rest b h.5 }

pub yields_check : {E A : Type 0} (r : Result A E) (P : A → Type 0) → ((a : A) → r ≡ Ok a → P a) → Yields (check r) P
yields_check r P p = record { all = λ words rest a h. p a h.1 }

ok_same : {E A : Type 0} (x y : A) → (let r : Result A E = Ok x in r) ≡ Ok y → x ≡ y
ok_same x y h = cc

pub yields_done : {E A : Type 0} (a : A) (P : A → Type 0) → P a → Yields (done {E = E} a) P
yields_done {E} a P p = record { all = λ words rest b h. subst P (ok_same {E = E} a b h.1) p }

pub yields_refused : {E A : Type 0} (e : E) (P : A → Type 0) → Yields (check (let r : Result A E = Err e in r)) P
yields_refused e P = record { all = λ words rest b h. absurd cc }

pub yields_one : {E A : Type 0} (test : Place → Result A E) (P : A → Type 0) → ((p : Place) (a : A) → test p ≡ Ok a → P a) → Yields (one test) P
yields_one test P p = record { all = λ words rest a h. p h.0 a h.2 }

pub yields_choose : {E A : Type 0} (b : Bool) (F G : Form E A) (P : A → Type 0) → Yields F P → Yields G P → Yields (choose b F G) P
yields_choose true F G P f g = record { all = f.all }
yields_choose false F G P f g = record { all = g.all }

-- ---- loops

-- one thing of a state that goes on, another of a last one
abbrev pub OfTurn : {S : Type 0} → (S → Type 0) → (S → Type 0) → Turn S → Type 0
OfTurn P Q (More s) = P s
OfTurn P Q (Done s) = Q s

turns_yield : {E S : Type 0} (body : S → Form E (Turn S)) (P Q : S → Type 0) → ((s : S) → P s → Yields (body s) (OfTurn P Q)) → (n : ℕ) (s t : S) (words : List Place) (rest : List Lexeme) → P s → Turns body n s words rest t → Q t
turns_yield body P Q y zero s t words rest p h = (y s p).all words rest (Done t) h
turns_yield body P Q y (suc n) s t words rest p h = turns_yield body P Q y n h.0 t h.2 rest ((y s p).all h.1 _ (More h.0) h.4) h.5

pub yields_loop : {E S : Type 0} (body : S → Form E (Turn S)) (s : S) (P Q : S → Type 0) → ((u : S) → P u → Yields (body u) (OfTurn P Q)) → P s → Yields (loop body s) Q
yields_loop body s P Q y p = record { all = λ words rest t h. turns_yield body P Q y h.0 s t words rest p h.1 }

pub yields_text : {E S : Type 0} (body : S → Form E (Turn S)) (s : S) (P : S → Type 0) → ((u : S) → P u → Yields (body u) (OfTurn P P)) → P s → Yields (text body s) P
yields_text body s P y p =
    let turn : (u : _) → P u → Yields (unless no_word body u) (OfTurn P P) = λ u q. yields_then look _ (OfTurn P P) (λ w. yields_choose (no_word w) _ (body u) (OfTurn P P) (yields_done (Done u) (OfTurn P P) q) (y u q)) in
    yields_bind (loop (unless no_word body) s) _ P P (yields_loop (unless no_word body) s P P turn p) (λ t q. yields_then nothing _ P (λ u. yields_done t P q))
