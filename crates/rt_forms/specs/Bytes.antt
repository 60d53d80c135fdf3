-- What readers of a text's bytes promise.
use Rattle.std.specs.Prelude.{ℕ, List, Result, Ok, Err, IfOk}
use Rattle.rt_base.specs.declared.token.Token.{Token}
use Rattle.rt_base.specs.declared.scan.ScanError.{ScanError}
use Rattle.rt_base.specs.declared.scan.ScanError.TheVariants.{UnclosedQuote, NotText, Memory as ScanMemory}
use Rattle.rt_base.specs.Scan.{Reads as ScansAs, IsCutInto}
use Rattle.rt_forms.specs.Form.{Faults}
use Rattle.rt_forms.specs.Clauses.{Gives}

-- why a text has no tokens, as an error of its reader: want of memory is one, wherever it comes
abbrev pub unread : {E : Type 0} → Faults E → (ScanError → E) → ScanError → E
unread f scan ScanMemory = f.memory
unread f scan (UnclosedQuote line) = scan (UnclosedQuote line)
unread f scan (NotText line) = scan (NotText line)

-- What a function of a text's bytes returned is what its tokens give, or why it has none, unless memory ran out.
pub record ReadsBytes {E A : Type 0} (f : Faults E) (scan : ScanError → E) (P : List Token → Result A E → Type 0) (text : List ℕ) (r : Result A E) : Type 0 where
  pub read : (tokens : List Token) → IsCutInto text tokens → P tokens r
  pub unread : (e : ScanError) → ScansAs text (Err e) → Gives f (λ x. x) r (Err (scan e))
  pub cut : IfOk r (λ a. (tokens : List Token) × IsCutInto text tokens)
