-- Readers of a text's bytes, from readers of its tokens.
use Rattle.std.proofs.Common.{◌≡◌, ◌≢◌, ℕ, List, Result, Ok, Err, IfOk, IfSome, refl, sym, subst}
use Rattle.std.specs.Global.{Vec}
use Rattle.rt_base.specs.declared.token.Token.{Token}
use Rattle.rt_base.specs.declared.scan.ScanError.{ScanError}
use Rattle.rt_base.specs.declared.scan.ScanError.TheVariants.{UnclosedQuote, NotText, Memory as ScanMemory}
use Rattle.rt_base.specs.Scan.{Reads as ScansAs, IsCutInto, answer_of}
use Rattle.rt_forms.specs.Form.{Faults, Form}
use Rattle.rt_forms.specs.Clauses.{ReadsText}
use Rattle.rt_forms.specs.Bytes.{unread, ReadsBytes}
use Rattle.rt_forms.proofs.Laws.{ok_is}

-- want of memory promises nothing
pub memory_text : {E A : Type 0} (f : Faults E) (F : Form E A) (text : List ℕ) (tokens : List Token) → ReadsText f (λ x. x) F text tokens (Err f.memory)
memory_text f F text tokens = record { found = tt; only = λ a b n. absurd (n refl); refused = λ n. absurd (n refl); refuses = λ e t n. absurd (n refl) }

-- the tokens were found
bytes_ok : {E A : Type 0} (f : Faults E) (scan : ScanError → E) (P : List Token → Result A E → Type 0) (text : List ℕ) (v : List Token) (r : Result A E)
    → IsCutInto text v → ((p : Result (List Token) ScanError) → ScansAs text p → (let q : Result (List Token) ScanError = Ok v in q) ≡ p) → P v r → ReadsBytes f scan P text r
bytes_ok {E} {A} f scan P text v r cut only h = record {
  read = λ tokens c. subst (λ (ts : List Token). P ts r) (ok_is {E = ScanError} v tokens (only (Ok tokens) c)) h;
  unread = λ e s. let p = only (Err e) s in absurd cc;
  cut = go r;
}
  where
    go : (q : Result A E) → IfOk q (λ a. (tokens : List Token) × IsCutInto text tokens)
    go (Ok a) = (v, cut)
    go (Err e) = tt

pub bytes_read : {E A : Type 0} (f : Faults E) (scan : ScanError → E) (P : List Token → Result A E → Type 0) (text : List ℕ) (o : Result (Vec Token) ScanError) (v : Vec Token) (r : Result A E)
    → o ≡ Ok v → IfSome (answer_of o) (ScansAs text) → ((p : Result (List Token) ScanError) → ScansAs text p → IfSome (answer_of o) (λ q. q ≡ p)) → P v.items r → ReadsBytes f scan P text r
bytes_read f scan P text o v r e found only h = bytes_ok f scan P text v.items r (rw e at found) (λ p s. let q = only p s in rw e at q) h

bytes_none : {E A : Type 0} (f : Faults E) (scan : ScanError → E) (P : List Token → Result A E → Type 0) (text : List ℕ) (e : ScanError) (s : E)
    → s ≡ scan e → ((p : Result (List Token) ScanError) → ScansAs text p → (let q : Result (List Token) ScanError = Err e in q) ≡ p) → ReadsBytes f scan P text (Err s)
bytes_none f scan P text e s same only = record {
  read = λ tokens c. let p = only (Ok tokens) c in absurd cc;
  unread = λ d t n. let p = only (Err d) t in let q : e ≡ d = cc in rw (same, q) refl;
  cut = tt;
}

pub bytes_unread : {E A : Type 0} (f : Faults E) (scan : ScanError → E) (P : List Token → Result A E → Type 0) (text : List ℕ) (e : ScanError)
    → ((p : Result (List Token) ScanError) → ScansAs text p → IfSome (answer_of (Err e)) (λ q. q ≡ p)) → ((tokens : List Token) → P tokens (Err f.memory)) → ReadsBytes f scan P text (Err (unread f scan e))
bytes_unread f scan P text ScanMemory only m = record { read = λ tokens c. m tokens; unread = λ d t n. absurd (n refl); cut = tt }
bytes_unread f scan P text (UnclosedQuote line) only m = bytes_none f scan P text (UnclosedQuote line) _ refl only
bytes_unread f scan P text (NotText line) only m = bytes_none f scan P text (NotText line) _ refl only
