-- Forms that skip are lawful.
use Rattle.std.proofs.Common.{◌≡◌, ℕ, Bool, true, false, ◌<◌, List, [], ◌∷◌, length, Ok, Err, refl, sym, ap, subst, ◌∙◌, arith, bytes_eq, ◌&&◌, if◌then◌else◌}
use Rattle.rt_forms.specs.Lexeme.{Lexeme, At, End, Place, put, first_of}
use Rattle.rt_forms.specs.Form.{Faults, Read, Which, next_of}
use Rattle.rt_forms.specs.Reading.{IsUpTo, NoneUpTo, after_first, up_to, is_next, or_end, left_of, left, IsUpToPair, NoPairUpTo, after_one, after_pair, up_to_pair, IsBefore, from_first, before}
use Rattle.rt_forms.proofs.Laws.{Lawful, Takes, ok_is}

-- nothing is told but what is left
abbrev leaves : {E : Type 0} → List Lexeme → Read E (Unit {0})
leaves vs = Ok (tt, vs)

rest_is : {E : Type 0} (vs rest : List Lexeme) → leaves {E = E} vs ≡ leaves rest → vs ≡ rest
rest_is {E} vs rest h =
    let same : (tt, vs) ≡ (tt, rest) = ok_is {E = E} (tt, vs) (tt, rest) h in
    ap (λ (p : Unit {0} × List Lexeme). p.1) same

-- a test was true or false of what gave this
chosen : {E : Type 0} (b : Bool) (x y z : Read E (Unit {0})) → (if b then x else y) ≡ z → (P : Type 0) → (b ≡ true → x ≡ z → P) → (b ≡ false → y ≡ z → P) → P
chosen true x y z h P f g = f refl h
chosen false x y z h P f g = g refl h

picked : (b : Bool) (P Q : Type 0) → Which b P Q → (R : Type 0) → (b ≡ true → P → R) → (b ≡ false → Q → R) → R
picked true P Q h R f g = f refl h
picked false P Q h R f g = g refl h

pub lawful_left : {E : Type 0} → Lawful (left {E = E})
lawful_left {E} = record {
  found = λ f ws rest a h.
      let same : (left_of ws, ws) ≡ (a, rest) = ok_is {E = E} (left_of ws, ws) (a, rest) h in
      let here = ap (λ (p : ℕ × List Lexeme). p.1) same in
      ([], here, (refl, ap left_of (sym here) ∙ ap (λ (p : ℕ × List Lexeme). p.0) same));
  only = λ f front rest a h. rw (h.0, h.1) refl;
  refused = λ f ws e h. absurd cc;
  refuses = λ f ws e h. absurd h;
}

-- ---- up to a word

up_found : {E : Type 0} (f : Faults E) (test : List ℕ → Bool) (ws rest : List Lexeme) → after_first f test ws ≡ leaves rest → (front : List Place) × (ws ≡ put front rest) × IsUpTo test front
up_found f test [] rest h = absurd cc
up_found f test (End line ∷ ws) rest h = absurd cc
up_found {E} f test (At line first word ∷ ws) rest h =
    let p : Place = record { line = line; first = first; word = word } in
    chosen (test word) (leaves ws) (after_first f test ws) (leaves rest) h ((front : List Place) × (At line first word ∷ ws ≡ put front rest) × IsUpTo test front)
    (λ e q. (p ∷ [], ap (λ (v : List Lexeme). At line first word ∷ v) (rest_is {E = E} ws rest q), rw e refl))
    (λ e q. let r = up_found f test ws rest q in (p ∷ r.0, ap (λ (v : List Lexeme). At line first word ∷ v) r.1, rw e r.2))

up_only : {E : Type 0} (f : Faults E) (test : List ℕ → Bool) (front : List Place) (rest : List Lexeme) → IsUpTo test front → after_first f test (put front rest) ≡ leaves rest
up_only f test [] rest h = absurd h
up_only f test (p ∷ ps) rest h =
    picked (test p.word) (ps ≡ []) (IsUpTo test ps) h (after_first f test (put (p ∷ ps) rest) ≡ leaves rest)
    (λ e q. rw (e, q) refl)
    (λ e q. rw e (up_only f test ps rest q))

up_refused : {E : Type 0} (f : Faults E) (test : List ℕ → Bool) (ws : List Lexeme) (e : E) → after_first f test ws ≡ Err e → NoneUpTo f test ws e
up_refused f test [] e h = cc
up_refused f test (End line ∷ ws) e h = cc
up_refused f test (At line first word ∷ ws) e h =
    chosen (test word) (leaves ws) (after_first f test ws) (Err e) h ((test word ≡ false) × NoneUpTo f test ws e)
    (λ t q. absurd cc)
    (λ t q. (t, up_refused f test ws e q))

up_refuses : {E : Type 0} (f : Faults E) (test : List ℕ → Bool) (ws : List Lexeme) (e : E) → NoneUpTo f test ws e → after_first f test ws ≡ Err e
up_refuses f test [] e h = rw h refl
up_refuses f test (End line ∷ ws) e h = rw h refl
up_refuses f test (At line first word ∷ ws) e h = rw h.0 (up_refuses f test ws e h.1)

pub lawful_up_to : {E : Type 0} (test : List ℕ → Bool) → Lawful (up_to {E = E} test)
lawful_up_to test = record {
  found = λ f ws rest a h. up_found f test ws rest h;
  only = λ f front rest a h. up_only f test front rest h;
  refused = λ f ws e h. up_refused f test ws e h;
  refuses = λ f ws e h. up_refuses f test ws e h;
}

up_takes : (test : List ℕ → Bool) (front : List Place) → IsUpTo test front → 0 < length front
up_takes test [] h = absurd h
up_takes test (p ∷ ps) h = omega arith

pub takes_up_to : {E : Type 0} (test : List ℕ → Bool) → Takes (up_to {E = E} test)
takes_up_to test = record { some = λ front rest a h. up_takes test front h }

-- ---- up to a pair

never : (b : Bool) → (b && false) ≡ true → ⊥
never true h = cc
never false h = cc

pair_here : (a b : List ℕ) (line first : ℕ) (word : List ℕ) (ws rest : List Lexeme) → (bytes_eq word a && is_next b (first_of ws)) ≡ true → after_one ws ≡ rest → (front : List Place) × (At line first word ∷ ws ≡ put front rest) × IsUpToPair a b front
pair_here a b line first word [] rest t h = absurd (never (bytes_eq word a) t)
pair_here a b line first word (End last ∷ ws) rest t h = absurd (never (bytes_eq word a) t)
pair_here a b line first word (At next later after ∷ ws) rest t h =
    (record { line = line; first = first; word = word } ∷ record { line = next; first = later; word = after } ∷ [], ap (λ (v : List Lexeme). At line first word ∷ At next later after ∷ v) h, rw t refl)

pair_later : (a b : List ℕ) (p : Place) (front : List Place) (rest : List Lexeme) → (bytes_eq p.word a && is_next b (first_of (put front rest))) ≡ false → IsUpToPair a b front → IsUpToPair a b (p ∷ front)
pair_later a b p [] rest t h = absurd h
pair_later a b p (q ∷ ps) rest t h = rw t h

pair_found : {E : Type 0} (f : Faults E) (a b : List ℕ) (ws rest : List Lexeme) → after_pair f a b ws ≡ leaves rest → (front : List Place) × (ws ≡ put front rest) × IsUpToPair a b front
pair_found f a b [] rest h = absurd cc
pair_found f a b (End line ∷ ws) rest h = absurd cc
pair_found {E} f a b (At line first word ∷ ws) rest h =
    let p : Place = record { line = line; first = first; word = word } in
    chosen (bytes_eq word a && is_next b (first_of ws)) (leaves (after_one ws)) (after_pair f a b ws) (leaves rest) h ((front : List Place) × (At line first word ∷ ws ≡ put front rest) × IsUpToPair a b front)
    (λ t q. pair_here a b line first word ws rest t (rest_is {E = E} (after_one ws) rest q))
    (λ t q. let r = pair_found f a b ws rest q in (p ∷ r.0, ap (λ (v : List Lexeme). At line first word ∷ v) r.1, pair_later a b p r.0 rest (ap (λ (v : List Lexeme). bytes_eq word a && is_next b (first_of v)) (sym r.1) ∙ t) r.2))

pair_only : {E : Type 0} (f : Faults E) (a b : List ℕ) (front : List Place) (rest : List Lexeme) → IsUpToPair a b front → after_pair f a b (put front rest) ≡ leaves rest
pair_only f a b [] rest h = absurd h
pair_only f a b (p ∷ []) rest h = absurd h
pair_only f a b (p ∷ q ∷ ps) rest h =
    picked (bytes_eq p.word a && bytes_eq q.word b) (ps ≡ []) (IsUpToPair a b (q ∷ ps)) h (after_pair f a b (put (p ∷ q ∷ ps) rest) ≡ leaves rest)
    (λ t e. rw (t, e) refl)
    (λ t e. rw t (pair_only f a b (q ∷ ps) rest e))

pair_refused : {E : Type 0} (f : Faults E) (a b : List ℕ) (ws : List Lexeme) (e : E) → after_pair f a b ws ≡ Err e → NoPairUpTo f a b ws e
pair_refused f a b [] e h = cc
pair_refused f a b (End line ∷ ws) e h = cc
pair_refused f a b (At line first word ∷ ws) e h =
    chosen (bytes_eq word a && is_next b (first_of ws)) (leaves (after_one ws)) (after_pair f a b ws) (Err e) h (((bytes_eq word a && is_next b (first_of ws)) ≡ false) × NoPairUpTo f a b ws e)
    (λ t q. absurd cc)
    (λ t q. (t, pair_refused f a b ws e q))

pair_refuses : {E : Type 0} (f : Faults E) (a b : List ℕ) (ws : List Lexeme) (e : E) → NoPairUpTo f a b ws e → after_pair f a b ws ≡ Err e
pair_refuses f a b [] e h = rw h refl
pair_refuses f a b (End line ∷ ws) e h = rw h refl
pair_refuses f a b (At line first word ∷ ws) e h = rw h.0 (pair_refuses f a b ws e h.1)

pub lawful_up_to_pair : {E : Type 0} (a b : List ℕ) → Lawful (up_to_pair {E = E} a b)
lawful_up_to_pair a b = record {
  found = λ f ws rest x h. pair_found f a b ws rest h;
  only = λ f front rest x h. pair_only f a b front rest h;
  refused = λ f ws e h. pair_refused f a b ws e h;
  refuses = λ f ws e h. pair_refuses f a b ws e h;
}

-- ---- before a word

before_found : (test : List ℕ → Bool) (ws : List Lexeme) → (front : List Place) × (ws ≡ put front (from_first test ws)) × IsBefore test front (from_first test ws)
before_found test [] = ([], refl, refl)
before_found test (End line ∷ ws) = ([], refl, refl)
before_found test (At line first word ∷ ws) = go (test word) refl (before_found test ws)
  where
    go : (b : Bool) → test word ≡ b → ((front : List Place) × (ws ≡ put front (from_first test ws)) × IsBefore test front (from_first test ws))
        → (front : List Place) × (At line first word ∷ ws ≡ put front (from_first test (At line first word ∷ ws))) × IsBefore test front (from_first test (At line first word ∷ ws))
    go true e r = ([], rw e refl, rw e e)
    go false e r =
        let same : from_first test (At line first word ∷ ws) ≡ from_first test ws = rw e refl in
        let p : Place = record { line = line; first = first; word = word } in
        (p ∷ r.0, ap (λ (v : List Lexeme). At line first word ∷ v) (r.1 ∙ ap (put r.0) (sym same)), (e, subst (λ (v : List Lexeme). IsBefore test r.0 v) (sym same) r.2))

before_stays : (test : List ℕ → Bool) (rest : List Lexeme) → or_end test (first_of rest) ≡ true → from_first test rest ≡ rest
before_stays test [] h = refl
before_stays test (End line ∷ ws) h = refl
before_stays test (At line first word ∷ ws) h = rw h refl

before_only : (test : List ℕ → Bool) (front : List Place) (rest : List Lexeme) → IsBefore test front rest → from_first test (put front rest) ≡ rest
before_only test [] rest h = before_stays test rest h
before_only test (p ∷ ps) rest h = rw h.0 (before_only test ps rest h.1)

pub lawful_before : {E : Type 0} (test : List ℕ → Bool) → Lawful (before {E = E} test)
lawful_before {E} test = record {
  found = λ f ws rest a h.
      let r = before_found test ws in
      let e = rest_is {E = E} (from_first test ws) rest h in
      (r.0, r.1 ∙ ap (put r.0) e, rw e at r.2);
  only = λ f front rest a h. rw (before_only test front rest h) refl;
  refused = λ f ws e h. absurd cc;
  refuses = λ f ws e h. absurd h;
}

-- ---- exits of loops that skip

pub up_err : {E : Type 0} (f : Faults E) (test : List ℕ → Bool) (ws : List Lexeme) (e : E) → next_of f ws ≡ Err e → after_first f test ws ≡ Err e
up_err f test [] e h = cc
up_err f test (End line ∷ ws) e h = cc
up_err f test (At line first word ∷ ws) e h = absurd cc

pub pair_err : {E : Type 0} (f : Faults E) (a b : List ℕ) (ws : List Lexeme) (e : E) → next_of f ws ≡ Err e → after_pair f a b ws ≡ Err e
pair_err f a b [] e h = cc
pair_err f a b (End line ∷ ws) e h = cc
pair_err f a b (At line first word ∷ ws) e h = absurd cc
