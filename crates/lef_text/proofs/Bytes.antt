-- From the words of a text to its bytes.
use Rattle.std.proofs.Common.{◌≡◌, List, ℕ, Result, Ok, Err, refl, sym, ap, subst, inl, inr, ◌∙◌}
use Rattle.rt_base.specs.declared.token.Token.{Token}
use Rattle.rt_base.specs.declared.scan.ScanError.{ScanError}
use Rattle.rt_base.specs.Scan.{Reads as ScansAs, answer_of}
use Rattle.rt_base.specs.declared.scan.ScanError.TheVariants as scans
use Rattle.std.specs.Prelude.{IfSome}
use Rattle.rt_forms.specs.Clauses.{ReadsText, IsText, IsRefused, Gives}
use Rattle.lef_text.specs.declared.error.LefError.{LefError}
use Rattle.lef_text.specs.declared.error.LefError.TheVariants.{Scan, Memory}
use Rattle.lef_text.specs.declared.lef.Lef.{Lef}
use Rattle.lef_text.specs.Faults.{lef_faults}
use Rattle.lef_text.specs.Lef.{lef, ReadsBytes, IsRefusedText, scan_fault}

abbrev pub Cut : Type 0
Cut = Result (List Token) ScanError

cut_is : (a b : List Token) → (let r : Cut = Ok a in r) ≡ Ok b → a ≡ b
cut_is a b h = cc

apart : (a : List Token) (s : ScanError) → (let r : Cut = Ok a in r) ≡ Err s → ⊥
apart a s h = cc

fault_is : (s t : ScanError) → (let r : Cut = Err s in r) ≡ Err t → s ≡ t
fault_is s t h = cc

-- the text is cut into these words
pub of_words : (units : ℕ) (bytes : List ℕ) (tokens : List Token) (r : Result Lef LefError) → ScansAs bytes (Ok tokens) → ((o : Cut) → ScansAs bytes o → Ok tokens ≡ o) → ReadsText lef_faults (λ x. x) (lef units) bytes tokens r → ReadsBytes units bytes r
of_words units bytes tokens (Ok l) cut only h = record {
  found = (tokens, cut, h.found);
  only = λ words m c t. h.only m (subst (λ (ws : List Token). IsText (lef units) bytes ws m) (sym (cut_is tokens words (only (Ok words) c))) t);
  refused = tt;
  refuses = λ e t. refuses e t;
}
  where
    refuses : (e : LefError) → IsRefusedText units bytes e → Gives lef_faults (λ x. x) (Ok l) (Err e)
    refuses e (inl t) = absurd (apart tokens t.0 (only (Err t.0) t.1))
    refuses e (inr t) = h.refuses e (subst (λ (ws : List Token). IsRefused lef_faults (lef units) bytes ws e) (sym (cut_is tokens t.0 (only (Ok t.0) t.1))) t.2)
of_words units bytes tokens (Err d) cut only h = record {
  found = tt;
  only = λ words m c t. h.only m (subst (λ (ws : List Token). IsText (lef units) bytes ws m) (sym (cut_is tokens words (only (Ok words) c))) t);
  refused = λ n. inr (tokens, cut, h.refused n);
  refuses = λ e t. refuses e t;
}
  where
    refuses : (e : LefError) → IsRefusedText units bytes e → Gives lef_faults (λ (x : Lef). x) (Err d) (Err e)
    refuses e (inl t) = absurd (apart tokens t.0 (only (Err t.0) t.1))
    refuses e (inr t) = h.refuses e (subst (λ (ws : List Token). IsRefused lef_faults (lef units) bytes ws e) (sym (cut_is tokens t.0 (only (Ok t.0) t.1))) t.2)

-- the text has a fault before it is cut into words
pub of_fault : (units : ℕ) (bytes : List ℕ) (s : ScanError) → ScansAs bytes (Err s) → ((o : Cut) → ScansAs bytes o → Err s ≡ o) → ReadsBytes units bytes (Err (Scan s))
of_fault units bytes s cut only = record {
  found = tt;
  only = λ words m c t. absurd (apart words s (sym (only (Ok words) c)));
  refused = λ n. inl (s, cut, refl);
  refuses = λ e t. refuses e t;
}
  where
    refuses : (e : LefError) → IsRefusedText units bytes e → Gives lef_faults (λ (x : Lef). x) (Err (Scan s)) (Err e)
    refuses e (inl t) = λ n. ap (λ (d : LefError). Err d) (t.2 ∙ ap (λ (u : ScanError). Scan u) (sym (fault_is s t.0 (only (Err t.0) t.1))))
    refuses e (inr t) = absurd (apart t.0 s (sym (only (Ok t.0) t.1)))

-- memory ran out
pub of_memory : (units : ℕ) (bytes : List ℕ) → ReadsBytes units bytes (Err Memory)
of_memory units bytes = record {
  found = tt;
  only = λ words m c t n. absurd (n refl);
  refused = λ n. absurd (n refl);
  refuses = λ e t n. absurd (n refl);
}

-- a scan that failed
pub of_error : (units : ℕ) (bytes : List ℕ) (s : ScanError) → IfSome (answer_of (Err s)) (ScansAs bytes) → ((o : Cut) → ScansAs bytes o → IfSome (answer_of (Err s)) (λ r. r ≡ o)) → ReadsBytes units bytes (Err (scan_fault s))
of_error units bytes scans.Memory found only = of_memory units bytes
of_error units bytes (scans.UnclosedQuote line) found only = of_fault units bytes (scans.UnclosedQuote line) found only
of_error units bytes (scans.NotText line) found only = of_fault units bytes (scans.NotText line) found only
