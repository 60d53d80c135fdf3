-- What forms take, one word after the other.
use Rattle.std.proofs.Common.{◌≡◌, ◌∙◌, ℕ, Bool, true, false, List, [], ◌∷◌, ◌++◌, Option, refl, sym, ap, append-nil}
use Rattle.rt_forms.specs.Lexeme.{Lexeme, Place, put, first_of}
use Rattle.written.specs.Cuts.{bytes_of}
use Rattle.rt_forms.specs.Form.{Form, done, look, ◌>>=◌, choose, Turn, More, Done, loop, unless}

pub then_look : {E B : Type 0} (G : Option Place → Form E B) (words : List Place) (rest : List Lexeme) (b : B) → (G (first_of (put words rest))).takes words rest b → (look >>= G).takes words rest b
then_look G words rest b h = (first_of (put words rest), [], words, refl, (refl, refl), h)

pub chosen : {E A : Type 0} (b : Bool) (F G : Form E A) (words : List Place) (rest : List Lexeme) (a : A) → b ≡ true → F.takes words rest a → (choose b F G).takes words rest a
chosen b F G words rest a e h = rw e h

pub not_chosen : {E A : Type 0} (b : Bool) (F G : Form E A) (words : List Place) (rest : List Lexeme) (a : A) → b ≡ false → G.takes words rest a → (choose b F G).takes words rest a
not_chosen b F G words rest a e h = rw e h

-- a turn that goes on
pub turn_on : {E S : Type 0} (stops : Option Place → Bool) (body : S → Form E (Turn S)) (s u : S) (words : List Place) (rest : List Lexeme) → stops (first_of (put words rest)) ≡ false → (body s).takes words rest (More u) → (unless stops body s).takes words rest (More u)
turn_on stops body s u words rest e h = then_look (λ w. choose (stops w) (done (Done s)) (body s)) words rest (More u) (not_chosen (stops (first_of (put words rest))) (done (Done s)) (body s) words rest (More u) e h)

-- the last one
pub turn_off : {E S : Type 0} (stops : Option Place → Bool) (body : S → Form E (Turn S)) (s : S) (rest : List Lexeme) → stops (first_of rest) ≡ true → (unless stops body s).takes [] rest (Done s)
turn_off stops body s rest e = then_look (λ w. choose (stops w) (done (Done s)) (body s)) [] rest (Done s) (chosen (stops (first_of rest)) (done (Done s)) (body s) [] rest (Done s) e (refl, refl))

-- one turn that goes on, and the last one
pub one_turn : {E S : Type 0} (stops : Option Place → Bool) (body : S → Form E (Turn S)) (s u : S) (words : List Place) (rest : List Lexeme) → stops (first_of (put words rest)) ≡ false → stops (first_of rest) ≡ true → (body s).takes words rest (More u) → (loop (unless stops body) s).takes words rest u
one_turn stops body s u words rest on off h = (1, (u, words, [], sym (append-nil words), turn_on stops body s u words rest on h, turn_off stops body u rest off))

-- ---- words by their bytes

-- what holds of words that begin with this one
pub word_first : (P : List Place → Type 0) (ps : List Place) (w : List ℕ) (ws : List (List ℕ)) → bytes_of ps ≡ w ∷ ws → ((p : Place) (qs : List Place) → p.word ≡ w → bytes_of qs ≡ ws → P (p ∷ qs)) → P ps
word_first P [] w ws e h = absurd cc
word_first P (p ∷ qs) w ws e h =
    let here : p.word ≡ w = cc in
    let there : bytes_of qs ≡ ws = cc in
    h p qs here there

pub word_none : (P : List Place → Type 0) (ps : List Place) → bytes_of ps ≡ [] → P [] → P ps
word_none P [] e h = h
word_none P (p ∷ qs) e h = absurd cc

pub words_behind : (ps : List Place) (vs ws : List (List ℕ)) → bytes_of ps ≡ vs ++ ws → (front : List Place) × (back : List Place) × (ps ≡ front ++ back) × (bytes_of front ≡ vs) × (bytes_of back ≡ ws)
words_behind ps [] ws e = ([], ps, refl, refl, e)
words_behind [] (v ∷ vs) ws e = absurd cc
words_behind (p ∷ ps) (v ∷ vs) ws e =
    let here : p.word ≡ v = cc in
    let there : bytes_of ps ≡ vs ++ ws = cc in
    let r = words_behind ps vs ws there in
    (p ∷ r.0, r.1, ap (λ (qs : List Place). p ∷ qs) r.2, ap (λ (us : List (List ℕ)). p.word ∷ us) r.3 ∙ ap (λ (u : List ℕ). u ∷ vs) here, r.4)
