-- What the public readers promise, from what they read.
use Rattle.std.proofs.Common.{◌≡◌, ℕ, List, Result, Ok, Err, refl, sym, ap, ◌∙◌}
use Rattle.rt_base.specs.declared.token.Token.{Token}
use Rattle.rt_forms.specs.Lexeme.{Lexeme, lexemes}
use Rattle.rt_forms.specs.Form.{Form}
use Rattle.rt_forms.specs.Clauses.{Reads}
use Rattle.rt_forms.proofs.Laws.{Lawful, ok_is}
use Rattle.def_text.specs.declared.error.DefError.{DefError}
use Rattle.def_text.specs.declared.error.DefError.TheVariants.{Memory}
use Rattle.def_text.specs.Faults.{def_faults}
use Rattle.def_text.specs.Clauses.{Begins, ReadsBeginning}

begins_reads : {A : Type 0} (F : Form DefError A) → Lawful F → (ws : List Lexeme) (a : A) (b : Begins F ws a) → F.read def_faults ws ≡ Ok (a, b.rest)
begins_reads F l ws a b = ap (F.read def_faults) b.same ∙ l.only def_faults b.front b.rest a b.taken

pub reads_beginning : {A : Type 0} (F : Form DefError A) → Lawful F → (text : List ℕ) (tokens : List Token) (new : List Lexeme) (r : Result A DefError) → Reads def_faults (λ x. x) r (lexemes text tokens) new F → ReadsBeginning F text tokens r
reads_beginning {A} F l text tokens new (Ok x) h = record {
  found = let m = l.found def_faults (lexemes text tokens) new x h.0 in record { front = m.0; rest = new; same = m.1; taken = m.2 };
  only = λ a b.
      let p = ok_is {E = DefError} (x, new) (a, b.rest) (sym h.0 ∙ begins_reads F l (lexemes text tokens) a b) in
      ap (λ (q : A × List Lexeme). Ok q.0) (sym p);
  refused = tt;
  refuses = λ e t. let p = sym (l.refuses def_faults (lexemes text tokens) e t) ∙ h.0 in absurd cc;
}
reads_beginning F l text tokens new (Err e) h = record {
  found = tt;
  only = λ a b n. let p = sym (begins_reads F l (lexemes text tokens) a b) ∙ h n in absurd cc;
  refused = λ n. l.refused def_faults (lexemes text tokens) e (h n);
  refuses = λ d t n. let p = sym (l.refuses def_faults (lexemes text tokens) d t) ∙ h n in cc;
}

-- want of memory promises nothing
pub memory_beginning : {A : Type 0} (F : Form DefError A) (text : List ℕ) (tokens : List Token) → ReadsBeginning F text tokens (Err Memory)
memory_beginning F text tokens = record { found = tt; only = λ a b n. absurd (n refl); refused = λ n. absurd (n refl); refuses = λ e t n. absurd (n refl) }
