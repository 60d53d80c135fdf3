-- What holds of each value that a form takes of words that are names where they look like names.
use Rattle.std.proofs.Common.{◌≡◌, subst, Bool, true, false, ℕ, zero, suc, List, [], ◌∷◌, ◌++◌, Result, Ok}
use Rattle.std.specs.List.{AllByRecursion}
use Rattle.rt_forms.specs.Lexeme.{Lexeme, Place}
use Rattle.rt_forms.specs.Form.{Form, one, done, look, nothing, ◌>>=◌, choose, loop, unless, no_word, text, Turn, Turns, More, Done}
use Rattle.lef_text.proofs.Yields.{Yields, OfTurn, yields_done}
use Rattle.lef_text.proofs.Named.{IsNamed}

pub record Gives {E A : Type 0} (F : Form E A) (P : A → Type 0) : Type 0 where
  pub all : (words : List Place) (rest : List Lexeme) (a : A) → AllByRecursion IsNamed words → F.takes words rest a → P a

-- what holds whatever the words are
pub gives_always : {E A : Type 0} (F : Form E A) (P : A → Type 0) → Yields F P → Gives F P
gives_always F P y = record { all = λ words rest a named h. y.all words rest a h }

named-parts : (xs ys : List Place) → AllByRecursion IsNamed (xs ++ ys) → AllByRecursion IsNamed xs × AllByRecursion IsNamed ys
named-parts [] ys h = (tt, h)
named-parts (x ∷ xs) ys h = let more = named-parts xs ys h.1 in ((h.0, more.0), more.1)

pub gives_bind : {E A B : Type 0} (F : Form E A) (G : A → Form E B) (P : A → Type 0) (Q : B → Type 0) → Gives F P → ((a : A) → P a → Gives (G a) Q) → Gives (F >>= G) Q
gives_bind F G P Q y g = record {
  all = λ words rest b named h.
      let both = named-parts h.1 h.2 (subst (λ (ws : List Place). AllByRecursion IsNamed ws) h.3 named) in
      (g h.0 (y.all h.1 _ h.0 both.0 h.4)).all h.2 rest b both.1 h.5;
}

-- a first form of which nothing is used
pub gives_then : {E A B : Type 0} (F : Form E A) (G : A → Form E B) (Q : B → Type 0) → ((a : A) → Gives (G a) Q) → Gives (F >>= G) Q
gives_then F G Q g = gives_bind F G (λ a. Unit {0}) Q (record { all = λ words rest a named h. tt }) (λ a h. g a)

pub gives_one : {E A : Type 0} (test : Place → Result A E) (P : A → Type 0) → ((p : Place) (a : A) → IsNamed p → test p ≡ Ok a → P a) → Gives (one test) P
gives_one test P p = record { all = λ words rest a named h. p h.0 a (subst (λ (ws : List Place). AllByRecursion IsNamed ws) h.1 named).0 h.2 }

-- ---- loops

turns_give : {E S : Type 0} (body : S → Form E (Turn S)) (P : S → Type 0) → ((s : S) → P s → Gives (body s) (OfTurn P P)) → (n : ℕ) (s t : S) (words : List Place) (rest : List Lexeme) → P s → AllByRecursion IsNamed words → Turns body n s words rest t → P t
turns_give body P y zero s t words rest p named h = (y s p).all words rest (Done t) named h
turns_give body P y (suc n) s t words rest p named h =
    let both = named-parts h.1 h.2 (subst (λ (ws : List Place). AllByRecursion IsNamed ws) h.3 named) in
    turns_give body P y n h.0 t h.2 rest ((y s p).all h.1 _ (More h.0) both.0 h.4) both.1 h.5

gives_loop : {E S : Type 0} (body : S → Form E (Turn S)) (s : S) (P : S → Type 0) → ((u : S) → P u → Gives (body u) (OfTurn P P)) → P s → Gives (loop body s) P
gives_loop body s P y p = record { all = λ words rest t named h. turns_give body P y h.0 s t words rest p named h.1 }

unless_gives : {E S : Type 0} (b : Bool) (body : S → Form E (Turn S)) (u : S) (P : S → Type 0) → P u → Gives (body u) (OfTurn P P) → Gives (choose b (done (Done u)) (body u)) (OfTurn P P)
unless_gives true body u P q y = record { all = λ words rest a named h. (yields_done (Done u) (OfTurn P P) q).all words rest a h }
unless_gives false body u P q y = record { all = y.all }

pub gives_text : {E S : Type 0} (body : S → Form E (Turn S)) (s : S) (P : S → Type 0) → ((u : S) → P u → Gives (body u) (OfTurn P P)) → P s → Gives (text body s) P
gives_text {E} body s P y p =
    let turn : (u : _) → P u → Gives (unless no_word body u) (OfTurn P P) = λ u q. gives_then look _ (OfTurn P P) (λ w. unless_gives (no_word w) body u P q (y u q)) in
    gives_bind (loop (unless no_word body) s) _ P P (gives_loop (unless no_word body) s P turn p) (λ t q. gives_then nothing _ P (λ u. gives_always (done {E = E} t) P (yields_done t P q)))
