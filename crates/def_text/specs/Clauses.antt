-- What the readers of DEF promise.
use Rattle.std.specs.Prelude.{◌≡◌, ◌≢◌, ℕ, List, Result, Ok, Err, IfOk, IfErr}
use Rattle.rt_base.specs.declared.token.Token.{Token}
use Rattle.rt_forms.specs.Lexeme.{Lexeme, Place, put, lexemes}
use Rattle.rt_forms.specs.Form.{Form}
use Rattle.rt_forms.specs.Clauses.{Gives, IsRefused}
use Rattle.def_text.specs.declared.error.DefError.{DefError}
use Rattle.def_text.specs.Faults.{def_faults}

-- the first words of a text are of the form, with this value
pub record Begins {A : Type 0} (F : Form DefError A) (words : List Lexeme) (a : A) : Type 0 where
  pub front : List Place
  pub rest : List Lexeme
  pub same : words ≡ put front rest
  pub taken : F.takes front rest a

-- what a function returned is the value of the first words of a text, or the fault of the first word that isn't admitted, unless memory ran out
pub record ReadsBeginning {A : Type 0} (F : Form DefError A) (text : List ℕ) (tokens : List Token) (r : Result A DefError) : Type 0 where
  pub found : IfOk r (λ a. Begins F (lexemes text tokens) a)
  pub only : (a : A) → Begins F (lexemes text tokens) a → Gives def_faults (λ x. x) r (Ok a)
  pub refused : IfErr r (λ e. e ≢ def_faults.memory → IsRefused def_faults F text tokens e)
  pub refuses : (e : DefError) → IsRefused def_faults F text tokens e → Gives def_faults (λ x. x) r (Err e)
