-- Loops that read.
use Rattle.std.proofs.Common.{◌≡◌, ◌≢◌, ℕ, Bool, true, false, zero, suc, ◌≤◌, ◌<◌, List, [], ◌∷◌, length, Result, Ok, Err, Option, refl, sym, ap, ◌∙◌, arith}
use Rattle.std.specs.Prelude.{IsErrAnd}
use Rattle.std.proofs.lemmas.Result.{err_from_is_err_and}
use Rattle.rt_forms.specs.Lexeme.{Lexeme, At, End, Place, is_end, first_of}
use Rattle.rt_forms.specs.Form.{Faults, Read, Form, and_then, Turn, More, Done, turn, turns, loop_of, loop, unless, no_word, nothing, nothing_of, text}
use Rattle.rt_forms.specs.Clauses.{Reads, Looks}
use Rattle.rt_forms.proofs.Laws.{then_turns}

-- what is left of a loop gives what the whole loop gives
pub record Runs {E S : Type 0} (f : Faults E) (body : S → Form E (Turn S)) (s : S) (ws : List Lexeme) (s0 : S) (ws0 : List Lexeme) : Type 0 where
  pub fuel : ℕ
  pub enough : length ws < fuel
  pub same : turns f body fuel s ws ≡ loop_of f body s0 ws0
  pub shorter : length ws ≤ length ws0

pub runs_begin : {E S : Type 0} (f : Faults E) (body : S → Form E (Turn S)) (s : S) (ws : List Lexeme) → Runs f body s ws s ws
runs_begin f body s ws = record { fuel = suc (length ws); enough = omega arith; same = refl; shorter = omega arith }

more_from : {E S : Type 0} (f : Faults E) (body : S → Form E (Turn S)) (fuel : ℕ) (s t : S) (ws vs : List Lexeme) (s0 : S) (ws0 : List Lexeme) → length ws < fuel → length ws ≤ length ws0 → turns f body fuel s ws ≡ loop_of f body s0 ws0 → (body s).read f ws ≡ Ok (More t, vs) → length vs < length ws → Runs f body t vs s0 ws0
unfolding turns
more_from f body zero s t ws vs s0 ws0 lt le same h shorter = absurd (omega arith)
more_from f body (suc n) s t ws vs s0 ws0 lt le same h shorter =
    record { fuel = n; enough = omega arith; same = sym (ap (then_turns f body n) h) ∙ same; shorter = omega arith }

done_from : {E S : Type 0} (f : Faults E) (body : S → Form E (Turn S)) (fuel : ℕ) (s t : S) (ws vs : List Lexeme) (total : Read E S) → length ws < fuel → turns f body fuel s ws ≡ total → (body s).read f ws ≡ Ok (Done t, vs) → total ≡ Ok (t, vs)
unfolding turns
done_from f body zero s t ws vs total lt same h = absurd (omega arith)
done_from f body (suc n) s t ws vs total lt same h = sym same ∙ ap (then_turns f body n) h

err_from : {E S : Type 0} (f : Faults E) (body : S → Form E (Turn S)) (fuel : ℕ) (s : S) (ws : List Lexeme) (total : Read E S) (e : E) → length ws < fuel → turns f body fuel s ws ≡ total → (body s).read f ws ≡ Err e → total ≡ Err e
unfolding turns
err_from f body zero s ws total e lt same h = absurd (omega arith)
err_from f body (suc n) s ws total e lt same h = sym same ∙ ap (then_turns f body n) h

-- a turn that goes on
pub runs_more : {E S : Type 0} {f : Faults E} {body : S → Form E (Turn S)} {s t : S} {ws vs : List Lexeme} {s0 : S} {ws0 : List Lexeme} {b : Bool}
    → Runs f body s ws s0 ws0 → ((body s).read f ws ≡ Ok (turn b t, vs)) × (length vs < length ws) → b ≡ false → Runs f body t vs s0 ws0
runs_more {E} {S} {f} {body} {s} {t} {ws} {vs} {s0} {ws0} r h e = more_from f body r.fuel s t ws vs s0 ws0 r.enough r.shorter r.same (h.0 ∙ ap (λ (x : Bool). Ok (turn x t, vs)) e) h.1

-- a turn that ends
pub runs_done : {E S : Type 0} {f : Faults E} {body : S → Form E (Turn S)} {s t : S} {ws vs : List Lexeme} {s0 : S} {ws0 : List Lexeme} {b : Bool}
    → Runs f body s ws s0 ws0 → ((body s).read f ws ≡ Ok (turn b t, vs)) × (length vs < length ws) → b ≡ true → (loop_of f body s0 ws0 ≡ Ok (t, vs)) × (length vs < length ws0)
runs_done {E} {S} {f} {body} {s} {t} {ws} {vs} {s0} {ws0} r h e =
    let shorter = r.shorter in
    let last : length vs < length ws = h.1 in
    (done_from f body r.fuel s t ws vs (loop_of f body s0 ws0) r.enough r.same (h.0 ∙ ap (λ (x : Bool). Ok (turn x t, vs)) e), omega arith)

-- a turn that fails
pub runs_err : {E S X : Type 0} {f : Faults E} {body : S → Form E (Turn S)} {s : S} {ws : List Lexeme} {s0 : S} {ws0 : List Lexeme} {e : E} (view : X → S) (new : List Lexeme) (r : Result X E)
    → Runs f body s ws s0 ws0 → (e ≢ f.memory → (body s).read f ws ≡ Err e) → IsErrAnd r (λ x. x ≡ e) → Reads f view r ws0 new (loop body s0)
runs_err {E} {S} {X} {f} {body} {s} {ws} {s0} {ws0} {e} view new r run h q =
    let p = err_from_is_err_and r q in
    rw (p.1, p.2) (λ n. err_from f body run.fuel s ws (loop_of f body s0 ws0) e run.enough run.same (h n))

-- ---- loops that a next word stops

-- the same, of a loop that a next word stops
pub record Until {E S : Type 0} (f : Faults E) (stops : Option Place → Bool) (body : S → Form E (Turn S)) (s : S) (ws : List Lexeme) (s0 : S) (ws0 : List Lexeme) : Type 0 where
  pub runs : Runs f (unless stops body) s ws s0 ws0

pub until_begin : {E S : Type 0} (f : Faults E) (stops : Option Place → Bool) (body : S → Form E (Turn S)) (s : S) (ws : List Lexeme) → Until f stops body s ws s ws
until_begin f stops body s ws = record { runs = runs_begin f (unless stops body) s ws }

unless_reads : {E S : Type 0} (f : Faults E) (stops : Option Place → Bool) (body : S → Form E (Turn S)) (s : S) (ws : List Lexeme) → stops (first_of ws) ≡ false → (unless stops body s).read f ws ≡ (body s).read f ws
unless_reads f stops body s ws h = rw h refl

unless_stops : {E S : Type 0} (f : Faults E) (stops : Option Place → Bool) (body : S → Form E (Turn S)) (s : S) (ws : List Lexeme) → stops (first_of ws) ≡ true → (unless stops body s).read f ws ≡ Ok (Done s, ws)
unless_stops f stops body s ws h = rw h refl

-- a turn that goes on
pub until_more : {E S : Type 0} {f : Faults E} {stops : Option Place → Bool} {body : S → Form E (Turn S)} {s t : S} {ws vs : List Lexeme} {s0 : S} {ws0 : List Lexeme} {b : Bool}
    → Until f stops body s ws s0 ws0 → stops (first_of ws) ≡ false → ((body s).read f ws ≡ Ok (turn b t, vs)) × (length vs < length ws) → b ≡ false → Until f stops body t vs s0 ws0
until_more {E} {S} {f} {stops} {body} {s} {t} {ws} r go h e = record { runs = runs_more r.runs (unless_reads f stops body s ws go ∙ h.0, h.1) e }

-- a word that stops it
pub until_stop : {E S : Type 0} {f : Faults E} {stops : Option Place → Bool} {body : S → Form E (Turn S)} {s : S} {ws : List Lexeme} {s0 : S} {ws0 : List Lexeme}
    → Until f stops body s ws s0 ws0 → stops (first_of ws) ≡ true → (loop_of f (unless stops body) s0 ws0 ≡ Ok (s, ws)) × (length ws ≤ length ws0)
until_stop {E} {S} {f} {stops} {body} {s} {ws} {s0} {ws0} r stop =
    (done_from f (unless stops body) r.runs.fuel s s ws ws (loop_of f (unless stops body) s0 ws0) r.runs.enough r.runs.same (unless_stops f stops body s ws stop), r.runs.shorter)

-- a turn that ends it
pub until_done : {E S : Type 0} {f : Faults E} {stops : Option Place → Bool} {body : S → Form E (Turn S)} {s t : S} {ws vs : List Lexeme} {s0 : S} {ws0 : List Lexeme} {b : Bool}
    → Until f stops body s ws s0 ws0 → stops (first_of ws) ≡ false → ((body s).read f ws ≡ Ok (turn b t, vs)) × (length vs < length ws) → b ≡ true → (loop_of f (unless stops body) s0 ws0 ≡ Ok (t, vs)) × (length vs ≤ length ws0)
until_done {E} {S} {f} {stops} {body} {s} {t} {ws} {vs} {s0} {ws0} r go h e =
    let d = runs_done r.runs (unless_reads f stops body s ws go ∙ h.0, h.1) e in
    (d.0, omega (arith, d.1))

-- a turn that fails
pub until_err : {E S X : Type 0} {f : Faults E} {stops : Option Place → Bool} {body : S → Form E (Turn S)} {s : S} {ws : List Lexeme} {s0 : S} {ws0 : List Lexeme} {e : E} (view : X → S) (new : List Lexeme) (r : Result X E)
    → Until f stops body s ws s0 ws0 → stops (first_of ws) ≡ false → (e ≢ f.memory → (body s).read f ws ≡ Err e) → IsErrAnd r (λ x. x ≡ e) → Looks f view r ws0 new (loop (unless stops body) s0)
until_err {E} {S} {X} {f} {stops} {body} {s} {ws} {s0} {ws0} {e} view new r run go h q =
    let p = err_from_is_err_and r q in
    rw (p.1, p.2) (λ n. err_from f (unless stops body) run.runs.fuel s ws (loop_of f (unless stops body) s0 ws0) e run.runs.enough run.runs.same (unless_reads f stops body s ws go ∙ h n))

-- ---- whole texts

no_word_is : (ws : List Lexeme) → no_word (first_of ws) ≡ is_end ws
no_word_is [] = refl
no_word_is (End line ∷ ws) = refl
no_word_is (At line first word ∷ ws) = refl

at_end : {E : Type 0} (f : Faults E) (ws : List Lexeme) → is_end ws ≡ true → nothing_of f ws ≡ Ok (tt, ws)
at_end f [] h = refl
at_end f (End line ∷ ws) h = refl
at_end f (At line first word ∷ ws) h = absurd cc

-- what comes after the loop of a text
abbrev then_nothing : {E S : Type 0} → Faults E → Read E S → Read E S
then_nothing f r = and_then r (λ x. and_then (nothing_of f x.1) (λ y. Ok (x.0, y.1)))

pub text_more : {E S : Type 0} {f : Faults E} {body : S → Form E (Turn S)} {s t : S} {ws vs : List Lexeme} {s0 : S} {ws0 : List Lexeme} {b : Bool}
    → Until f no_word body s ws s0 ws0 → is_end ws ≡ false → ((body s).read f ws ≡ Ok (turn b t, vs)) × (length vs < length ws) → b ≡ false → Until f no_word body t vs s0 ws0
text_more {ws = ws} r left h e = until_more r (no_word_is ws ∙ left) h e

pub text_end : {E S : Type 0} {f : Faults E} {body : S → Form E (Turn S)} {s : S} {ws : List Lexeme} {s0 : S} {ws0 : List Lexeme}
    → Until f no_word body s ws s0 ws0 → is_end ws ≡ true → ((text body s0).read f ws0 ≡ Ok (s, ws)) × (length ws ≤ length ws0)
text_end {f = f} {ws = ws} r ended =
    let d = until_stop r (no_word_is ws ∙ ended) in
    (ap (then_nothing f) d.0 ∙ rw (at_end f ws ended) refl, d.1)

nothing_more : {E S : Type 0} (f : Faults E) (body : S → Form E (Turn S)) (t : S) (vs us : List Lexeme) (s0 : S) (ws0 : List Lexeme) (r : Result (Unit {0}) E)
    → loop_of f (unless no_word body) s0 ws0 ≡ Ok (t, vs) → length vs ≤ length ws0 → Looks f (λ x. x) r vs us nothing → Looks f (λ x. t) r ws0 us (text body s0)
nothing_more {E} f body t vs us s0 ws0 (Ok x) d le n =
    (ap (then_nothing f) d ∙ ap (λ (y : Read E (Unit {0})). and_then y (λ y. Ok (t, y.1))) n.0, omega (arith, le, n.1))
nothing_more {E} f body t vs us s0 ws0 (Err x) d le n =
    λ m. ap (then_nothing f) d ∙ ap (λ (y : Read E (Unit {0})). and_then y (λ y. Ok (t, y.1))) (n m)

-- the last turn, and nothing behind it
pub text_done : {E S : Type 0} {f : Faults E} {body : S → Form E (Turn S)} {s : S} {ws vs : List Lexeme} {s0 : S} {ws0 : List Lexeme} {b : Bool} (t : S) (us : List Lexeme) (r : Result (Unit {0}) E)
    → Until f no_word body s ws s0 ws0 → is_end ws ≡ false → ((body s).read f ws ≡ Ok (turn b t, vs)) × (length vs < length ws) → b ≡ true → Looks f (λ x. x) r vs us nothing → Looks f (λ x. t) r ws0 us (text body s0)
text_done {f = f} {body = body} {ws = ws} {vs = vs} {s0 = s0} {ws0 = ws0} t us r run left h e n =
    let d = until_done run (no_word_is ws ∙ left) h e in
    nothing_more f body t vs us s0 ws0 r d.0 d.1 n

pub text_err : {E S X : Type 0} {f : Faults E} {body : S → Form E (Turn S)} {s : S} {ws : List Lexeme} {s0 : S} {ws0 : List Lexeme} {e : E} (view : X → S) (new : List Lexeme) (r : Result X E)
    → Until f no_word body s ws s0 ws0 → is_end ws ≡ false → (e ≢ f.memory → (body s).read f ws ≡ Err e) → IsErrAnd r (λ x. x ≡ e) → Looks f view r ws0 new (text body s0)
text_err {f = f} {body = body} {s = s} {ws = ws} {s0 = s0} {ws0 = ws0} {e = e} view new r run left h q =
    let p = err_from_is_err_and r q in
    rw (p.1, p.2) (λ n. ap (then_nothing f) (err_from f (unless no_word body) run.runs.fuel s ws (loop_of f (unless no_word body) s0 ws0) e run.runs.enough run.runs.same (unless_reads f no_word body s ws (no_word_is ws ∙ left) ∙ h n)))
