-- The words of a text by its parts.
use Rattle.std.proofs.Common.{◌≡◌, ◌∙◌, ℕ, ◌+◌, Bool, true, false, if◌then◌else◌, List, [], ◌∷◌, ◌++◌, length, refl, sym, ap, append_assoc}
use Rattle.std.specs.Prelude.{slice_range}
use Rattle.std.proofs.lemmas.List.{append-nil}
use Rattle.rt_base.proofs.Lists.{range-middle}
use Rattle.rt_base.specs.Parts.{Part, spelled, spelling, is_token, line_after, token_after, tokens_after}
use Rattle.rt_forms.specs.Lexeme.{Place, places}
use Rattle.written.specs.Cuts.{bytes_of}
use Rattle.out_words.proofs.Fitting.{part_words}

-- a part that stands behind these bytes, as a word
abbrev pub place_after : List ℕ → Part → Place
place_after before p = record { line = line_after before; first = length before; word = spelled p }

-- the tokens among parts that stand behind these bytes, as words
abbrev pub part_places : List ℕ → List Part → List Place
part_places before [] = []
part_places before (p ∷ ps) = if is_token p then place_after before p ∷ part_places (before ++ spelled p) ps else part_places (before ++ spelled p) ps

-- a middle of a list
pub places-parts : (text before : List ℕ) (ps : List Part) → text ≡ before ++ spelling ps → places text (tokens_after before ps) ≡ part_places before ps
places-parts text before [] e = refl
places-parts text before (p ∷ ps) e =
    at (is_token p) (rw e (range-middle before (spelled p) (spelling ps))) (places-parts text (before ++ spelled p) ps (e ∙ sym (append_assoc before (spelled p) (spelling ps))))
  where
    at : (b : Bool) → slice_range text (length before) (length before + length (spelled p)) ≡ spelled p → places text (tokens_after (before ++ spelled p) ps) ≡ part_places (before ++ spelled p) ps
        → places text (if b then token_after before (length (spelled p)) ∷ tokens_after (before ++ spelled p) ps else tokens_after (before ++ spelled p) ps)
        ≡ (if b then place_after before p ∷ part_places (before ++ spelled p) ps else part_places (before ++ spelled p) ps)
    at true word more = rw (word, more) refl
    at false word more = more

pub bytes-parts : (before : List ℕ) (ps : List Part) → bytes_of (part_places before ps) ≡ part_words ps
bytes-parts before [] = refl
bytes-parts before (p ∷ ps) = at (is_token p) (bytes-parts (before ++ spelled p) ps)
  where
    at : (b : Bool) → bytes_of (part_places (before ++ spelled p) ps) ≡ part_words ps
        → bytes_of (if b then place_after before p ∷ part_places (before ++ spelled p) ps else part_places (before ++ spelled p) ps) ≡ (if b then spelled p ∷ part_words ps else part_words ps)
    at true e = ap (λ (x : List (List ℕ)). spelled p ∷ x) e
    at false e = e

-- parts that stand behind these bytes are those of the words before a mark, of the mark, and of the words behind it
pub record Parted (before : List ℕ) (ps : List Part) (xs : List Place) (m : Place) (ys : List Place) : Type 0 where
  pub front : List Part
  pub part : Part
  pub back : List Part
  pub here : List ℕ
  pub whole : ps ≡ front ++ part ∷ back
  pub at : here ≡ before ++ spelling front
  pub words : part_places before front ≡ xs
  pub mark : place_after here part ≡ m
  pub rest : part_places here (part ∷ back) ≡ m ∷ ys

behind_blank : (before : List ℕ) (q : Part) (ps : List Part) (xs : List Place) (m : Place) (ys : List Place) → is_token q ≡ false → Parted (before ++ spelled q) ps xs m ys → Parted before (q ∷ ps) xs m ys
behind_blank before q ps xs m ys e r = record {
  front = q ∷ r.front;
  part = r.part;
  back = r.back;
  here = r.here;
  whole = ap (λ (x : List Part). q ∷ x) r.whole;
  at = r.at ∙ append_assoc before (spelled q) (spelling r.front);
  words = rw e r.words;
  mark = r.mark;
  rest = r.rest;
}

behind_word : (before : List ℕ) (q : Part) (ps : List Part) (x : Place) (xs : List Place) (m : Place) (ys : List Place) → is_token q ≡ true → place_after before q ≡ x → Parted (before ++ spelled q) ps xs m ys → Parted before (q ∷ ps) (x ∷ xs) m ys
behind_word before q ps x xs m ys e first r = record {
  front = q ∷ r.front;
  part = r.part;
  back = r.back;
  here = r.here;
  whole = ap (λ (x : List Part). q ∷ x) r.whole;
  at = r.at ∙ append_assoc before (spelled q) (spelling r.front);
  words = rw (e, r.words, first) refl;
  mark = r.mark;
  rest = r.rest;
}

pub parted : (before : List ℕ) (ps : List Part) (xs : List Place) (m : Place) (ys : List Place) → part_places before ps ≡ xs ++ m ∷ ys → Parted before ps xs m ys
parted before [] [] m ys h = absurd cc
parted before [] (x ∷ xs) m ys h = absurd cc
parted before (q ∷ ps) xs m ys h = by (is_token q) refl xs h (λ zs e. parted (before ++ spelled q) ps zs m ys e)
  where
    begun : is_token q ≡ true → (zs : List Place) → place_after before q ∷ part_places (before ++ spelled q) ps ≡ zs ++ m ∷ ys → ((us : List Place) → part_places (before ++ spelled q) ps ≡ us ++ m ∷ ys → Parted (before ++ spelled q) ps us m ys) → Parted before (q ∷ ps) zs m ys
    begun e [] h later = record {
      front = [];
      part = q;
      back = ps;
      here = before;
      whole = refl;
      at = sym (append-nil before);
      words = refl;
      mark = cc;
      rest = rw e h;
    }
    begun e (x ∷ zs) h later = behind_word before q ps x zs m ys e (cc) (later zs (cc))

    by : (b : Bool) → is_token q ≡ b → (zs : List Place) → part_places before (q ∷ ps) ≡ zs ++ m ∷ ys → ((us : List Place) → part_places (before ++ spelled q) ps ≡ us ++ m ∷ ys → Parted (before ++ spelled q) ps us m ys) → Parted before (q ∷ ps) zs m ys
    by true e zs h later = begun e zs (rw e at h) later
    by false e zs h later = behind_blank before q ps zs m ys e (later zs (rw e at h))
