-- What readers promise: of a form, and of a whole text.
use Rattle.std.specs.Prelude.{◌≡◌, ◌≢◌, ℕ, ◌<◌, ◌≤◌, List, [], ◌∷◌, length, Result, Ok, Err, IfOk, IfErr}
use Rattle.rt_base.specs.declared.token.Token.{Token}
use Rattle.rt_forms.specs.Lexeme.{Lexeme, End, places, last_line, lexemes}
use Rattle.rt_forms.specs.Form.{Faults, Form}

-- What a function returned, seen by view, is this answer, unless memory ran out.
abbrev pub Gives : {E X Y : Type 0} → Faults E → (X → Y) → Result X E → Result Y E → Type 0
Gives f view (Ok x) answer = answer ≡ Ok (view x)
Gives f view (Err e) answer = e ≢ f.memory → answer ≡ Err e

-- A function read the form: it returned what reading gives, and a word at least was taken, unless memory ran out.
abbrev pub Reads : {E X Y : Type 0} → Faults E → (X → Y) → Result X E → List Lexeme → List Lexeme → Form E Y → Type 0
Reads f view (Ok x) old new F = (F.read f old ≡ Ok (view x, new)) × (length new < length old)
Reads f view (Err e) old new F = e ≢ f.memory → F.read f old ≡ Err e

-- The same, where perhaps no word was taken.
abbrev pub Looks : {E X Y : Type 0} → Faults E → (X → Y) → Result X E → List Lexeme → List Lexeme → Form E Y → Type 0
Looks f view (Ok x) old new F = (F.read f old ≡ Ok (view x, new)) × (length new ≤ length old)
Looks f view (Err e) old new F = e ≢ f.memory → F.read f old ≡ Err e

-- all words of a text with these tokens are of the form, with this value
abbrev pub IsText : {E A : Type 0} → Form E A → List ℕ → List Token → A → Type 0
IsText F text tokens a = F.takes (places text tokens) (End (last_line tokens) ∷ []) a

-- the first word of the text that the form doesn't admit, or the end, is refused so
abbrev pub IsRefused : {E A : Type 0} → Faults E → Form E A → List ℕ → List Token → E → Type 0
IsRefused f F text tokens e = F.refuses f (lexemes text tokens) e

-- What a function returned, seen by view, is the value of a text, or its refusal, unless memory ran out.
pub record ReadsText {E X Y : Type 0} (f : Faults E) (view : X → Y) (F : Form E Y) (text : List ℕ) (tokens : List Token) (r : Result X E) : Type 0 where
  -- what is read is a text with this value
  pub found : IfOk r (λ x. IsText F text tokens (view x))
  -- a text is read, unless memory runs out
  pub only : (y : Y) → IsText F text tokens y → Gives f view r (Ok y)
  -- each fault is that of a refused text
  pub refused : IfErr r (λ e. e ≢ f.memory → IsRefused f F text tokens e)
  -- a refused text gives its fault, unless memory runs out
  pub refuses : (e : E) → IsRefused f F text tokens e → Gives f view r (Err e)
