-- The closing `;` of nets stand one behind the other.
use Rattle.std.proofs.Common.{◌≡◌, ◌++◌, ◌+◌, ◌<◌, ◌≤◌, ℕ, zero, suc, Bool, true, false, List, [], ◌∷◌, length, Result, Ok, Err, ap, sym, subst, ◌∙◌, arith, refl}
use Rattle.std.proofs.lemmas.List.{length-append}
use Rattle.rt_base.specs.declared.token.Token.{Token}
use Rattle.rt_base.specs.Parts.{Part, Blank, Comment, Quoted, Plain, spelled, spelling, is_token, tokens_after}
use Rattle.rt_base.specs.Scan.{IsCutInto}
use Rattle.rt_forms.specs.Lexeme.{Lexeme, At, End, Place, put, places, ended, last_line, lexemes}
use Rattle.rt_forms.specs.Form.{Form, check, done, ◌>>=◌, choose, loop, Turn, More, Done, Turns}
use Rattle.rt_forms.proofs.Laws.{put_append, ok_is}

-- ---- words one behind the other

abbrev pub AreFrom : ℕ → List Lexeme → Type 0
AreFrom n [] = Unit {0}
AreFrom n (End line ∷ ws) = AreFrom n ws
AreFrom n (At line first word ∷ ws) = (n ≤ first) × AreFrom n ws

-- each word begins behind the one before, in a text of this size
abbrev pub Ascend : ℕ → List Lexeme → Type 0
Ascend size [] = Unit {0}
Ascend size (End line ∷ ws) = Ascend size ws
Ascend size (At line first word ∷ ws) = (first < size) × AreFrom (first + 1) ws × Ascend size ws

from_weaker : (m n : ℕ) (ws : List Lexeme) → m ≤ n → AreFrom n ws → AreFrom m ws
from_weaker m n [] le h = tt
from_weaker m n (End line ∷ ws) le h = from_weaker m n ws le h
from_weaker m n (At line first word ∷ ws) le h = (omega (arith, h.0), from_weaker m n ws le h.1)

pub from_rest : (n : ℕ) (front : List Place) (rest : List Lexeme) → AreFrom n (put front rest) → AreFrom n rest
from_rest n [] rest h = h
from_rest n (p ∷ front) rest h = from_rest n front rest h.1

pub ascend_rest : (size : ℕ) (front : List Place) (rest : List Lexeme) → Ascend size (put front rest) → Ascend size rest
ascend_rest size [] rest h = h
ascend_rest size (p ∷ front) rest h = ascend_rest size front rest h.2

some_bytes : (p : Part) → is_token p ≡ true → 1 ≤ length (spelled p)
some_bytes (Blank b) h = absurd cc
some_bytes (Comment bs) h = absurd cc
some_bytes (Quoted bs) h = omega arith
some_bytes (Plain b bs) h = omega arith

record Stand (from size : ℕ) (ws : List Lexeme) : Type 0 where
  behind : AreFrom from ws
  order : Ascend size ws

tokens_stand : (text before : List ℕ) (parts : List Part) (last : ℕ) → Stand (length before) (length before + length (spelling parts)) (ended (places text (tokens_after before parts)) last)
tokens_stand text before [] last = record { behind = tt; order = tt }
tokens_stand text before (p ∷ parts) last = go (is_token p) refl (tokens_stand text (before ++ spelled p) parts last)
  where
    size : length before + length (spelling (p ∷ parts)) ≡ length (before ++ spelled p) + length (spelling parts)
    size = omega (arith, length-append before (spelled p), length-append (spelled p) (spelling parts))

    go : (b : Bool) → is_token p ≡ b → Stand (length (before ++ spelled p)) (length (before ++ spelled p) + length (spelling parts)) (ended (places text (tokens_after (before ++ spelled p) parts)) last)
        → Stand (length before) (length before + length (spelling (p ∷ parts))) (ended (places text (tokens_after before (p ∷ parts))) last)
    go true e h =
        let some = some_bytes p e in
        rw (e, size) (record {
          behind = (omega arith, from_weaker (length before) (length (before ++ spelled p)) (ended (places text (tokens_after (before ++ spelled p) parts)) last) (omega (arith, length-append before (spelled p))) h.behind);
          order = (omega (arith, length-append before (spelled p)), from_weaker (length before + 1) (length (before ++ spelled p)) (ended (places text (tokens_after (before ++ spelled p) parts)) last) (omega (arith, length-append before (spelled p))) h.behind, h.order);
        })
    go false e h = rw (e, size) (record { behind = from_weaker (length before) (length (before ++ spelled p)) (ended (places text (tokens_after (before ++ spelled p) parts)) last) (omega (arith, length-append before (spelled p))) h.behind; order = h.order })

pub cut_ascends : (text : List ℕ) (tokens : List Token) → IsCutInto text tokens → Ascend (length text) (lexemes text tokens)
cut_ascends text tokens h =
    let m = h.made in
    let s = tokens_stand text [] m.parts (last_line tokens) in
    subst (λ (ts : List Token). Ascend (length text) (ended (places text ts) (last_line tokens))) (sym m.same)
    (subst (λ (n : ℕ). Ascend n (ended (places text (tokens_after [] m.parts)) (last_line tokens))) (omega (arith, ap length m.whole)) s.order)

few_tokens : (before : List ℕ) (parts : List Part) → length (tokens_after before parts) ≤ length (spelling parts)
few_tokens before [] = omega arith
few_tokens before (p ∷ parts) = go (is_token p) refl (few_tokens (before ++ spelled p) parts)
  where
    go : (b : Bool) → is_token p ≡ b → length (tokens_after (before ++ spelled p) parts) ≤ length (spelling parts) → length (tokens_after before (p ∷ parts)) ≤ length (spelling (p ∷ parts))
    go true e h = let some = some_bytes p e in rw e (omega (arith, length-append (spelled p) (spelling parts), h, some))
    go false e h = rw e (omega (arith, length-append (spelled p) (spelling parts), h))

-- a text has at least as many bytes as tokens
pub few_cut : (text : List ℕ) (tokens : List Token) → IsCutInto text tokens → length tokens ≤ length text
few_cut text tokens h =
    let m = h.made in
    omega (arith, few_tokens [] m.parts, ap length m.same, ap length m.whole)

-- ---- what a form leads to

-- where P holds of the words before, Q holds of the value and the words behind
pub record Leads {E A : Type 0} (P : List Lexeme → Type 0) (F : Form E A) (Q : A → List Lexeme → Type 0) : Type 0 where
  pub to : (front : List Place) (rest : List Lexeme) (a : A) → F.takes front rest a → P (put front rest) → Q a rest

pub leads_bind : {E A B : Type 0} (P : List Lexeme → Type 0) (F : Form E A) (Q : A → List Lexeme → Type 0) (G : A → Form E B) (R : B → List Lexeme → Type 0)
    → Leads P F Q → ((a : A) → Leads (Q a) (G a) R) → Leads P (F >>= G) R
leads_bind P F Q G R f g = record {
  to = λ words rest b h p.
      let e : put words rest ≡ put h.1 (put h.2 rest) = ap (λ (v : List Place). put v rest) h.3 ∙ put_append h.1 h.2 rest in
      (g h.0).to h.2 rest b h.5 (f.to h.1 (put h.2 rest) h.0 h.4 (subst P e p));
}

-- what holds of each end of these words
pub record Lasts (P : List Lexeme → Type 0) : Type 0 where
  pub rest : (front : List Place) (rest : List Lexeme) → P (put front rest) → P rest

pub leads_any : {E A : Type 0} (P : List Lexeme → Type 0) (F : Form E A) → Lasts P → Leads P F (λ a. P)
leads_any P F l = record { to = λ front rest a h p. l.rest front rest p }

pub leads_check : {E A : Type 0} (P : List Lexeme → Type 0) (r : Result A E) (Q : A → List Lexeme → Type 0) → ((a : A) (ws : List Lexeme) → r ≡ Ok a → P ws → Q a ws) → Leads P (check r) Q
leads_check P r Q k = record { to = λ front rest a h p. k a rest h.1 (subst (λ (v : List Place). P (put v rest)) h.0 p) }

pub leads_done : {E A : Type 0} (P : List Lexeme → Type 0) (a : A) (Q : A → List Lexeme → Type 0) → ((ws : List Lexeme) → P ws → Q a ws) → Leads P (done {E = E} a) Q
leads_done {E} {A} P a Q k = record { to = λ front rest b h p. subst (λ (x : A). Q x rest) (ok_is {E = E} a b h.1) (k rest (subst (λ (v : List Place). P (put v rest)) h.0 p)) }

pub leads_not : {E A : Type 0} (P : List Lexeme → Type 0) (e : E) (Q : A → List Lexeme → Type 0) → Leads P (check (Err e)) Q
leads_not P e Q = record { to = λ front rest a h p. let q = h.1 in absurd cc }

pub leads_choose : {E A : Type 0} (P : List Lexeme → Type 0) (b : Bool) (F G : Form E A) (Q : A → List Lexeme → Type 0) → Leads P F Q → Leads P G Q → Leads P (choose b F G) Q
leads_choose P true F G Q f g = record { to = f.to }
leads_choose P false F G Q f g = record { to = g.to }

abbrev pub ByTurn : {S : Type 0} → (S → List Lexeme → Type 0) → (S → List Lexeme → Type 0) → Turn S → List Lexeme → Type 0
ByTurn Inv Q (More s) ws = Inv s ws
ByTurn Inv Q (Done s) ws = Q s ws

turns_lead : {E S : Type 0} (Inv Q : S → List Lexeme → Type 0) (body : S → Form E (Turn S)) → ((s : S) → Leads (Inv s) (body s) (ByTurn Inv Q))
    → (n : ℕ) (s : S) (words : List Place) (rest : List Lexeme) (t : S) → Turns body n s words rest t → Inv s (put words rest) → Q t rest
turns_lead Inv Q body l zero s words rest t h p = (l s).to words rest (Done t) h p
turns_lead Inv Q body l (suc n) s words rest t h p =
    let e : put words rest ≡ put h.1 (put h.2 rest) = ap (λ (v : List Place). put v rest) h.3 ∙ put_append h.1 h.2 rest in
    turns_lead Inv Q body l n h.0 h.2 rest t h.5 ((l s).to h.1 (put h.2 rest) (More h.0) h.4 (subst (Inv s) e p))

pub leads_loop : {E S : Type 0} (Inv Q : S → List Lexeme → Type 0) (body : S → Form E (Turn S)) → ((s : S) → Leads (Inv s) (body s) (ByTurn Inv Q)) → (s : S) → Leads (Inv s) (loop body s) Q
leads_loop Inv Q body l s = record { to = λ words rest t h p. turns_lead Inv Q body l h.0 s words rest t h.1 p }
