-- Forms of text: which words one takes, which word it refuses, and how it is read from left to right.
use Rattle.std.specs.Prelude.{◌≡◌, ℕ, zero, suc, List, [], ◌∷◌, ◌++◌, length, Result, Ok, Err, Option, Some, None, Bool, true, false, if◌then◌else◌, ◌⊎◌}
use Rattle.rt_forms.specs.Lexeme.{Lexeme, At, End, Place, put, is_end, first_of}

-- the faults that the readers of all texts answer
pub record Faults (E : Type 0) : Type 0 where
  -- memory ran out
  pub memory : E
  -- the words end too early, behind a last one on this line
  pub ended : ℕ → E
  -- a word on this line isn't admitted
  pub expected : ℕ → E

-- a value and the words after it, or a fault
abbrev pub Read : Type 0 → Type 0 → Type 0
Read E A = Result (A × List Lexeme) E

pub record Form (E A : Type 0) : Type 1 where
  -- these words, before these others, are of the form, with this value
  pub takes : List Place → List Lexeme → A → Type 0
  -- words of the form come as far as they go, and the next one is refused so
  pub refuses : Faults E → List Lexeme → E → Type 0
  -- what reading these words gives
  pub read : Faults E → List Lexeme → Read E A

abbrev pub and_then : {E A B : Type 0} → Result A E → (A → Result B E) → Result B E
and_then (Ok x) f = f x
and_then (Err e) f = Err e

-- ---- one word

abbrev pub next_of : {E : Type 0} → Faults E → List Lexeme → Read E Place
next_of f [] = Err (f.ended 1)
next_of f (End line ∷ ws) = Err (f.ended line)
next_of f (At line first word ∷ ws) = Ok (record { line = line; first = first; word = word }, ws)

-- no word is left, or the next one is refused by the test
abbrev pub RefusesOne : {E : Type 0} → Faults E → (Place → E → Type 0) → List Lexeme → E → Type 0
RefusesOne f fails [] e = e ≡ f.ended 1
RefusesOne f fails (End line ∷ ws) e = e ≡ f.ended line
RefusesOne f fails (At line first word ∷ ws) e = fails (record { line = line; first = first; word = word }) e

-- any word
abbrev pub next : {E : Type 0} → Form E Place
next = record {
  takes = λ front rest p. front ≡ p ∷ [];
  refuses = λ f ws e. RefusesOne f (λ p d. ⊥) ws e;
  read = λ f ws. next_of f ws;
}

abbrev pub with_rest : {E A : Type 0} → List Lexeme → Result A E → Read E A
with_rest ws (Ok x) = Ok (x, ws)
with_rest ws (Err e) = Err e

-- one word that passes the test, which answers a fault of its own
abbrev pub one : {E A : Type 0} → (Place → Result A E) → Form E A
one test = record {
  takes = λ front rest a. (p : Place) × (front ≡ p ∷ []) × (test p ≡ Ok a);
  refuses = λ f ws e. RefusesOne f (λ p d. test p ≡ Err d) ws e;
  read = λ f ws. and_then (next_of f ws) (λ w. with_rest w.1 (test w.0));
}

abbrev pub some_or : {E A : Type 0} → E → Option A → Result A E
some_or e (Some x) = Ok x
some_or e None = Err e

-- one word that means something, where any other isn't expected
abbrev pub admit : {E A : Type 0} → (Place → Option A) → Form E A
admit meaning = record {
  takes = λ front rest a. (p : Place) × (front ≡ p ∷ []) × (meaning p ≡ Some a);
  refuses = λ f ws e. RefusesOne f (λ p d. (meaning p ≡ None) × (d ≡ f.expected p.line)) ws e;
  read = λ f ws. and_then (next_of f ws) (λ w. with_rest w.1 (some_or (f.expected w.0.line) (meaning w.0)));
}

-- ---- no word

-- no word, where this test passes
abbrev pub check : {E A : Type 0} → Result A E → Form E A
check r = record {
  takes = λ front rest a. (front ≡ []) × (r ≡ Ok a);
  refuses = λ f ws e. r ≡ Err e;
  read = λ f ws. with_rest ws r;
}

abbrev pub done : {E A : Type 0} → A → Form E A
done a = check (Ok a)

-- the next word, if one is left, which stays
abbrev pub look : {E : Type 0} → Form E (Option Place)
look = record {
  takes = λ front rest a. (front ≡ []) × (first_of rest ≡ a);
  refuses = λ f ws e. ⊥;
  read = λ f ws. Ok (first_of ws, ws);
}

-- a word is left, which isn't expected
abbrev pub IsLeft : {E : Type 0} → Faults E → List Lexeme → E → Type 0
IsLeft f [] e = ⊥
IsLeft f (End line ∷ ws) e = ⊥
IsLeft f (At line first word ∷ ws) e = e ≡ f.expected line

abbrev pub nothing_of : {E : Type 0} → Faults E → List Lexeme → Read E (Unit {0})
nothing_of f [] = Ok (tt, [])
nothing_of f (End line ∷ ws) = Ok (tt, End line ∷ ws)
nothing_of f (At line first word ∷ ws) = Err (f.expected line)

-- no word, where none is left
abbrev pub nothing : {E : Type 0} → Form E (Unit {0})
nothing = record {
  takes = λ front rest a. (front ≡ []) × (is_end rest ≡ true);
  refuses = λ f ws e. IsLeft f ws e;
  read = λ f ws. nothing_of f ws;
}

-- ---- one form after the other, and a choice

infixl 10 ◌>>=◌
abbrev pub ◌>>=◌ : {E A B : Type 0} → Form E A → (A → Form E B) → Form E B
F >>= G = record {
  takes = λ words rest b. (a : _) × (front : List Place) × (back : List Place) × (words ≡ front ++ back) × F.takes front (put back rest) a × (G a).takes back rest b;
  refuses = λ f ws e. F.refuses f ws e ⊎ ((a : _) × (front : List Place) × (rest : List Lexeme) × (ws ≡ put front rest) × F.takes front rest a × (G a).refuses f rest e);
  read = λ f ws. and_then (F.read f ws) (λ x. (G x.0).read f x.1);
}

abbrev pub Which : Bool → Type 0 → Type 0 → Type 0
Which true P Q = P
Which false P Q = Q

-- this form or that
abbrev pub choose : {E A : Type 0} → Bool → Form E A → Form E A → Form E A
choose b F G = record {
  takes = λ words rest a. Which b (F.takes words rest a) (G.takes words rest a);
  refuses = λ f ws e. Which b (F.refuses f ws e) (G.refuses f ws e);
  read = λ f ws. if b then F.read f ws else G.read f ws;
}

-- ---- loops

-- one turn of a loop goes on or ends
pub data Turn (S : Type 0) : Type 0 where
  More : S → Turn S
  Done : S → Turn S

abbrev pub turn : {S : Type 0} → Bool → S → Turn S
turn true s = Done s
turn false s = More s

abbrev pub after_turn : {E S : Type 0} → (S → List Lexeme → Read E S) → Turn S → List Lexeme → Read E S
after_turn go (More s) ws = go s ws
after_turn go (Done s) ws = Ok (s, ws)

-- turns until one ends, at most as many as n
unfoldable pub turns : {E S : Type 0} → Faults E → (S → Form E (Turn S)) → ℕ → S → List Lexeme → Read E S
turns f body zero s ws = Err f.memory
turns f body (suc n) s ws = and_then ((body s).read f ws) (λ x. after_turn (turns f body n) x.0 x.1)

-- turns until one ends: each that goes on takes a word at least
abbrev pub loop_of : {E S : Type 0} → Faults E → (S → Form E (Turn S)) → S → List Lexeme → Read E S
loop_of f body s ws = turns f body (suc (length ws)) s ws

-- n turns that go on, and one that ends
abbrev pub Turns : {E S : Type 0} → (S → Form E (Turn S)) → ℕ → S → List Place → List Lexeme → S → Type 0
Turns body zero s words rest t = (body s).takes words rest (Done t)
Turns body (suc n) s words rest t = (u : _) × (front : List Place) × (back : List Place) × (words ≡ front ++ back) × (body s).takes front (put back rest) (More u) × Turns body n u back rest t

-- n turns that go on, and one that is refused
abbrev pub RefusesTurn : {E S : Type 0} → Faults E → (S → Form E (Turn S)) → ℕ → S → List Lexeme → E → Type 0
RefusesTurn f body zero s ws e = (body s).refuses f ws e
RefusesTurn f body (suc n) s ws e = (u : _) × (front : List Place) × (rest : List Lexeme) × (ws ≡ put front rest) × (body s).takes front rest (More u) × RefusesTurn f body n u rest e

abbrev pub loop : {E S : Type 0} → (S → Form E (Turn S)) → S → Form E S
loop body s = record {
  takes = λ words rest t. (n : ℕ) × Turns body n s words rest t;
  refuses = λ f ws e. (n : ℕ) × RefusesTurn f body n s ws e;
  read = λ f ws. loop_of f body s ws;
}

-- a turn where the next word, or the end of the words, doesn't stop the loop
abbrev pub unless : {E S : Type 0} → (Option Place → Bool) → (S → Form E (Turn S)) → S → Form E (Turn S)
unless stops body s = do
  w ← look
  choose (stops w) (done (Done s)) (body s)

-- ---- a whole text

-- the form, and no word after it
abbrev pub whole : {E A : Type 0} → Form E A → Form E A
whole F = do
  a ← F
  _ ← nothing
  done a

abbrev pub no_word : Option Place → Bool
no_word None = true
no_word (Some w) = false

-- turns up to the end of the words, or up to one that ends, and no word after them
abbrev pub text : {E S : Type 0} → (S → Form E (Turn S)) → S → Form E S
text body s = whole (loop (unless no_word body) s)
