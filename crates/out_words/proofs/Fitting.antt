-- Parts behind parts, and parts whose rest is another one.
use Rattle.std.proofs.Common.{◌≡◌, ◌∙◌, ℕ, Bool, true, false, if◌then◌else◌, List, [], ◌∷◌, ◌++◌, refl, sym, ap, append_assoc}
use Rattle.rt_base.specs.Parts.{is_blank, is_feed, Part, Blank, Comment, Quoted, Plain, spelled, spelling, Begins, Fits, AllFit, is_token}

pub spelling-append : (ps qs : List Part) → spelling (ps ++ qs) ≡ spelling ps ++ spelling qs
spelling-append [] qs = refl
spelling-append (p ∷ ps) qs = ap (λ (x : List ℕ). spelled p ++ x) (spelling-append ps qs) ∙ sym (append_assoc (spelled p) (spelling ps) (spelling qs))

-- the words of the tokens among these parts
abbrev pub part_words : List Part → List (List ℕ)
part_words [] = []
part_words (p ∷ ps) = if is_token p then spelled p ∷ part_words ps else part_words ps

pub part_words-append : (ps qs : List Part) → part_words (ps ++ qs) ≡ part_words ps ++ part_words qs
part_words-append [] qs = refl
part_words-append (p ∷ ps) qs = at (is_token p) (part_words-append ps qs)
  where
    at : (b : Bool) → part_words (ps ++ qs) ≡ part_words ps ++ part_words qs
        → (if b then spelled p ∷ part_words (ps ++ qs) else part_words (ps ++ qs)) ≡ (if b then spelled p ∷ part_words ps else part_words ps) ++ part_words qs
    at true e = ap (λ (x : List (List ℕ)). spelled p ∷ x) e
    at false e = e

pub fit-append : (ps qs : List Part) (rest : List ℕ) → AllFit ps (spelling qs ++ rest) → AllFit qs rest → AllFit (ps ++ qs) rest
fit-append [] qs rest f g = g
fit-append (p ∷ ps) qs rest f g = (rw (spelling-append ps qs, append_assoc (spelling ps) (spelling qs) rest) f.0, fit-append ps qs rest f.1 g)

pub fit-front : (ps qs : List Part) (rest : List ℕ) → AllFit (ps ++ qs) rest → AllFit ps (spelling qs ++ rest)
fit-front [] qs rest f = tt
fit-front (p ∷ ps) qs rest f = (rw (spelling-append ps qs, append_assoc (spelling ps) (spelling qs) rest) at f.0, fit-front ps qs rest f.1)

pub fit-back : (ps qs : List Part) (rest : List ℕ) → AllFit (ps ++ qs) rest → AllFit qs rest
fit-back [] qs rest f = f
fit-back (p ∷ ps) qs rest f = fit-back ps qs rest f.1

-- where the one may stand behind a token or a comment, so may the other
pub record Follows (old new : List ℕ) : Type 0 where
  pub blank : Begins is_blank old → Begins is_blank new
  pub feed : Begins is_feed old → Begins is_feed new

pub follows_same : (a : List ℕ) → Follows a a
follows_same a = record { blank = λ h. h; feed = λ h. h }

pub follows_feed : (a b : List ℕ) → Follows a (10 ∷ b)
follows_feed a b = record { blank = λ h. refl; feed = λ h. refl }

pub follows-behind : (front a b : List ℕ) → Follows a b → Follows (front ++ a) (front ++ b)
follows-behind [] a b f = f
follows-behind (x ∷ front) a b f = record { blank = λ h. h; feed = λ h. h }

fits_before : (p : Part) (a b : List ℕ) → Follows a b → Fits p a → Fits p b
fits_before (Blank c) a b f h = h
fits_before (Comment bs) a b f h = (h.0, f.feed h.1)
fits_before (Quoted bs) a b f h = h
fits_before (Plain c bs) a b f h = (h.0, h.1, h.2, h.3, f.blank h.4)

pub fit_before : (ps : List Part) (a b : List ℕ) → Follows a b → AllFit ps a → AllFit ps b
fit_before [] a b f h = tt
fit_before (p ∷ ps) a b f h = (fits_before p (spelling ps ++ a) (spelling ps ++ b) (follows-behind (spelling ps) a b f) h.0, fit_before ps a b f h.1)
