-- Reading a form finds what the form takes, and refuses what it refuses.
use Rattle.std.proofs.Common.{◌≡◌, ℕ, Bool, true, false, zero, suc, ◌+◌, ◌<◌, List, [], ◌∷◌, ◌++◌, length, Result, Ok, Err, Option, Some, None, refl, sym, ap, subst, ◌∙◌, arith, ◌⊎◌, inl, inr}
use Rattle.std.proofs.lemmas.List.{length-append}
use Rattle.rt_forms.specs.Lexeme.{Lexeme, At, End, Place, put, is_end, first_of}
use Rattle.rt_forms.specs.Form.{Faults, Read, Form, and_then, with_rest, some_or, next_of, next, one, admit, check, done, look, IsLeft, nothing_of, nothing, ◌>>=◌, choose, Turn, More, Done, turns, after_turn, Turns, RefusesTurn, loop, unless, whole, no_word, text}

pub record Lawful {E A : Type 0} (F : Form E A) : Type 0 where
  -- what is read stands there in the form
  pub found : (f : Faults E) (ws rest : List Lexeme) (a : A) → F.read f ws ≡ Ok (a, rest) → (front : List Place) × (ws ≡ put front rest) × F.takes front rest a
  -- what stands there in the form is read
  pub only : (f : Faults E) (front : List Place) (rest : List Lexeme) (a : A) → F.takes front rest a → F.read f (put front rest) ≡ Ok (a, rest)
  -- a fault is that of what is refused
  pub refused : (f : Faults E) (ws : List Lexeme) (e : E) → F.read f ws ≡ Err e → F.refuses f ws e
  -- what is refused gives its fault
  pub refuses : (f : Faults E) (ws : List Lexeme) (e : E) → F.refuses f ws e → F.read f ws ≡ Err e

-- ---- one word

pub ok_is : {E X : Type 0} (x y : X) → (let a : Result X E = Ok x in a) ≡ Ok y → x ≡ y
ok_is x y h = cc

rest_ok : {E A : Type 0} (r : Result A E) (ws rest : List Lexeme) (a : A) → with_rest ws r ≡ Ok (a, rest) → (r ≡ Ok a) × (ws ≡ rest)
rest_ok {E} {A} (Ok x) ws rest a h =
    let same : (x, ws) ≡ (a, rest) = ok_is {E = E} (x, ws) (a, rest) h in
    (ap (λ (p : A × List Lexeme). Ok p.0) same, ap (λ (p : A × List Lexeme). p.1) same)
rest_ok (Err e) ws rest a h = absurd cc

rest_err : {E A : Type 0} (r : Result A E) (ws : List Lexeme) (e : E) → with_rest ws r ≡ Err e → r ≡ Err e
rest_err (Ok x) ws e h = absurd cc
rest_err (Err d) ws e h = cc

next_found : {E : Type 0} (f : Faults E) (ws rest : List Lexeme) (p : Place) → next_of f ws ≡ Ok (p, rest) → (front : List Place) × (ws ≡ put front rest) × (next {E = E}).takes front rest p
next_found f [] rest p h = absurd cc
next_found f (End line ∷ ws) rest p h = absurd cc
next_found {E} f (At line first word ∷ ws) rest p h =
    let q : Place = record { line = line; first = first; word = word } in
    let same : (q, ws) ≡ (p, rest) = ok_is {E = E} (q, ws) (p, rest) h in
    (q ∷ [], ap (λ (y : Place × List Lexeme). At line first word ∷ y.1) same, ap (λ (y : Place × List Lexeme). y.0 ∷ []) same)

next_refused : {E : Type 0} (f : Faults E) (ws : List Lexeme) (e : E) → next_of f ws ≡ Err e → (next {E = E}).refuses f ws e
next_refused f [] e h = cc
next_refused f (End line ∷ ws) e h = cc
next_refused f (At line first word ∷ ws) e h = absurd cc

next_refuses : {E : Type 0} (f : Faults E) (ws : List Lexeme) (e : E) → (next {E = E}).refuses f ws e → next_of f ws ≡ Err e
next_refuses f [] e h = rw h refl
next_refuses f (End line ∷ ws) e h = rw h refl
next_refuses f (At line first word ∷ ws) e h = absurd h

pub lawful_next : {E : Type 0} → Lawful (next {E = E})
lawful_next = record { found = next_found; only = λ f front rest p h. rw h refl; refused = next_refused; refuses = next_refuses }

one_found : {E A : Type 0} (test : Place → Result A E) (f : Faults E) (ws rest : List Lexeme) (a : A) → (one test).read f ws ≡ Ok (a, rest) → (front : List Place) × (ws ≡ put front rest) × (one test).takes front rest a
one_found test f [] rest a h = absurd cc
one_found test f (End line ∷ ws) rest a h = absurd cc
one_found test f (At line first word ∷ ws) rest a h =
    let p : Place = record { line = line; first = first; word = word } in
    let r = rest_ok (test p) ws rest a h in
    (p ∷ [], ap (λ (v : List Lexeme). At line first word ∷ v) r.1, (p, refl, r.0))

one_only : {E A : Type 0} (test : Place → Result A E) (f : Faults E) (front : List Place) (rest : List Lexeme) (a : A) → (one test).takes front rest a → (one test).read f (put front rest) ≡ Ok (a, rest)
one_only test f front rest a h = rw (h.1, h.2) refl

one_refused : {E A : Type 0} (test : Place → Result A E) (f : Faults E) (ws : List Lexeme) (e : E) → (one test).read f ws ≡ Err e → (one test).refuses f ws e
one_refused test f [] e h = cc
one_refused test f (End line ∷ ws) e h = cc
one_refused test f (At line first word ∷ ws) e h = rest_err (test (record { line = line; first = first; word = word })) ws e h

one_refuses : {E A : Type 0} (test : Place → Result A E) (f : Faults E) (ws : List Lexeme) (e : E) → (one test).refuses f ws e → (one test).read f ws ≡ Err e
one_refuses test f [] e h = rw h refl
one_refuses test f (End line ∷ ws) e h = rw h refl
one_refuses test f (At line first word ∷ ws) e h = rw h refl

pub lawful_one : {E A : Type 0} (test : Place → Result A E) → Lawful (one test)
lawful_one test = record { found = one_found test; only = one_only test; refused = one_refused test; refuses = one_refuses test }

admit_ok : {E A : Type 0} (e : E) (r : Option A) (ws rest : List Lexeme) (a : A) → with_rest ws (some_or e r) ≡ Ok (a, rest) → (r ≡ Some a) × (ws ≡ rest)
admit_ok {E} {A} e (Some x) ws rest a h =
    let same : (x, ws) ≡ (a, rest) = ok_is {E = E} (x, ws) (a, rest) h in
    (ap (λ (p : A × List Lexeme). Some p.0) same, ap (λ (p : A × List Lexeme). p.1) same)
admit_ok e None ws rest a h = absurd cc

admit_err : {E A : Type 0} (e d : E) (r : Option A) (ws : List Lexeme) → with_rest ws (some_or e r) ≡ Err d → (r ≡ None) × (d ≡ e)
admit_err e d (Some x) ws h = absurd cc
admit_err e d None ws h = (refl, cc)

admit_found : {E A : Type 0} (meaning : Place → Option A) (f : Faults E) (ws rest : List Lexeme) (a : A) → (admit {E = E} meaning).read f ws ≡ Ok (a, rest) → (front : List Place) × (ws ≡ put front rest) × (admit {E = E} meaning).takes front rest a
admit_found meaning f [] rest a h = absurd cc
admit_found meaning f (End line ∷ ws) rest a h = absurd cc
admit_found meaning f (At line first word ∷ ws) rest a h =
    let p : Place = record { line = line; first = first; word = word } in
    let r = admit_ok (f.expected line) (meaning p) ws rest a h in
    (p ∷ [], ap (λ (v : List Lexeme). At line first word ∷ v) r.1, (p, refl, r.0))

admit_only : {E A : Type 0} (meaning : Place → Option A) (f : Faults E) (front : List Place) (rest : List Lexeme) (a : A) → (admit {E = E} meaning).takes front rest a → (admit meaning).read f (put front rest) ≡ Ok (a, rest)
admit_only meaning f front rest a h = rw (h.1, h.2) refl

admit_refused : {E A : Type 0} (meaning : Place → Option A) (f : Faults E) (ws : List Lexeme) (e : E) → (admit meaning).read f ws ≡ Err e → (admit meaning).refuses f ws e
admit_refused meaning f [] e h = cc
admit_refused meaning f (End line ∷ ws) e h = cc
admit_refused meaning f (At line first word ∷ ws) e h = admit_err (f.expected line) e (meaning (record { line = line; first = first; word = word })) ws h

admit_refuses : {E A : Type 0} (meaning : Place → Option A) (f : Faults E) (ws : List Lexeme) (e : E) → (admit meaning).refuses f ws e → (admit meaning).read f ws ≡ Err e
admit_refuses meaning f [] e h = rw h refl
admit_refuses meaning f (End line ∷ ws) e h = rw h refl
admit_refuses meaning f (At line first word ∷ ws) e h = rw (h.0, h.1) refl

pub lawful_admit : {E A : Type 0} (meaning : Place → Option A) → Lawful (admit {E = E} meaning)
lawful_admit meaning = record { found = admit_found meaning; only = admit_only meaning; refused = admit_refused meaning; refuses = admit_refuses meaning }

-- ---- no word

pub lawful_check : {E A : Type 0} (r : Result A E) → Lawful (check r)
lawful_check r = record {
  found = λ f ws rest a h. let p = rest_ok r ws rest a h in ([], p.1, (refl, p.0));
  only = λ f front rest a h. rw (h.0, h.1) refl;
  refused = λ f ws e h. rest_err r ws e h;
  refuses = λ f ws e h. rw h refl;
}

pub lawful_look : {E : Type 0} → Lawful (look {E = E})
lawful_look {E} = record {
  found = λ f ws rest a h.
      let same : (first_of ws, ws) ≡ (a, rest) = ok_is {E = E} (first_of ws, ws) (a, rest) h in
      let here = ap (λ (p : Option Place × List Lexeme). p.1) same in
      ([], here, (refl, ap first_of (sym here) ∙ ap (λ (p : Option Place × List Lexeme). p.0) same));
  only = λ f front rest a h. rw (h.0, h.1) refl;
  refused = λ f ws e h. absurd cc;
  refuses = λ f ws e h. absurd h;
}

nothing_found : {E : Type 0} (f : Faults E) (ws rest : List Lexeme) (a : Unit {0}) → nothing_of f ws ≡ Ok (a, rest) → (front : List Place) × (ws ≡ put front rest) × (nothing {E = E}).takes front rest a
nothing_found {E} f [] rest a h =
    let same : (tt, []) ≡ (a, rest) = ok_is {E = E} (tt, []) (a, rest) h in
    let e = ap (λ (p : Unit {0} × List Lexeme). p.1) same in
    ([], e, (refl, ap is_end (sym e)))
nothing_found {E} f (End line ∷ ws) rest a h =
    let same : (tt, End line ∷ ws) ≡ (a, rest) = ok_is {E = E} (tt, End line ∷ ws) (a, rest) h in
    let e = ap (λ (p : Unit {0} × List Lexeme). p.1) same in
    ([], e, (refl, ap is_end (sym e)))
nothing_found f (At line first word ∷ ws) rest a h = absurd cc

nothing_only : {E : Type 0} (f : Faults E) (rest : List Lexeme) → is_end rest ≡ true → nothing_of f rest ≡ Ok (tt, rest)
nothing_only f [] h = refl
nothing_only f (End line ∷ ws) h = refl
nothing_only f (At line first word ∷ ws) h = absurd cc

nothing_refused : {E : Type 0} (f : Faults E) (ws : List Lexeme) (e : E) → nothing_of f ws ≡ Err e → IsLeft f ws e
nothing_refused f [] e h = absurd cc
nothing_refused f (End line ∷ ws) e h = absurd cc
nothing_refused f (At line first word ∷ ws) e h = cc

nothing_refuses : {E : Type 0} (f : Faults E) (ws : List Lexeme) (e : E) → IsLeft f ws e → nothing_of f ws ≡ Err e
nothing_refuses f [] e h = absurd h
nothing_refuses f (End line ∷ ws) e h = absurd h
nothing_refuses f (At line first word ∷ ws) e h = rw h refl

pub lawful_nothing : {E : Type 0} → Lawful (nothing {E = E})
lawful_nothing = record {
  found = nothing_found;
  only = λ f front rest a h. rw h.0 (nothing_only f rest h.1);
  refused = nothing_refused;
  refuses = nothing_refuses;
}

-- ---- one form after the other, and a choice

pub put_append : (a b : List Place) (rest : List Lexeme) → put (a ++ b) rest ≡ put a (put b rest)
put_append [] b rest = refl
put_append (p ∷ a) b rest = ap (λ (v : List Lexeme). At p.line p.first p.word ∷ v) (put_append a b rest)

pub bind_ok : {E A B : Type 0} (r : Result A E) (f : A → Result B E) (y : B) → and_then r f ≡ Ok y → (x : A) × (r ≡ Ok x) × (f x ≡ Ok y)
bind_ok (Ok x) f y e = (x, refl, e)
bind_ok (Err d) f y e = absurd cc

bind_err : {E A B : Type 0} (r : Result A E) (f : A → Result B E) (d : E) → and_then r f ≡ Err d → (r ≡ Err d) ⊎ ((x : A) × (r ≡ Ok x) × (f x ≡ Err d))
bind_err (Ok x) f d e = inr (x, refl, e)
bind_err (Err c) f d e = inl cc

pub lawful_bind : {E A B : Type 0} (F : Form E A) (G : A → Form E B) → Lawful F → ((a : A) → Lawful (G a)) → Lawful (F >>= G)
lawful_bind F G l g = record {
  found = λ f ws rest b h.
      let x = bind_ok (F.read f ws) _ (b, rest) h in
      let m = l.found f ws x.0.1 x.0.0 x.1 in
      let r = (g x.0.0).found f x.0.1 rest b x.2 in
      let P = λ (v : List Lexeme). F.takes m.0 v x.0.0 in
      (m.0 ++ r.0, m.1 ∙ ap (put m.0) r.1 ∙ sym (put_append m.0 r.0 rest), (x.0.0, m.0, r.0, refl, subst P r.1 m.2, r.2));
  only = λ f words rest b h.
      rw (h.3, put_append h.1 h.2 rest, l.only f h.1 (put h.2 rest) h.0 h.4) ((g h.0).only f h.2 rest b h.5);
  refused = λ f ws e h.
      elim (bind_err (F.read f ws) _ e h) [
        | inl m ↦ inl (l.refused f ws e m)
        | inr x ↦ let m = l.found f ws x.0.1 x.0.0 x.1 in inr (x.0.0, m.0, x.0.1, m.1, m.2, (g x.0.0).refused f x.0.1 e x.2)
      ];
  refuses = λ f ws e h.
      elim h [
        | inl m ↦ rw (l.refuses f ws e m) refl
        | inr x ↦ rw (x.3, l.only f x.1 x.2 x.0 x.4) ((g x.0).refuses f x.2 e x.5)
      ];
}

pub lawful_choose : {E A : Type 0} (b : Bool) (F G : Form E A) → Lawful F → Lawful G → Lawful (choose b F G)
lawful_choose true F G l g = record { found = l.found; only = l.only; refused = l.refused; refuses = l.refuses }
lawful_choose false F G l g = record { found = g.found; only = g.only; refused = g.refused; refuses = g.refuses }

-- ---- loops

-- a turn that goes on takes a word at least
pub record Consumes {E S : Type 0} (F : Form E (Turn S)) : Type 0 where
  pub some : (front : List Place) (rest : List Lexeme) (u : S) → F.takes front rest (More u) → 0 < length front

-- a form takes a word at least
pub record Takes {E A : Type 0} (F : Form E A) : Type 0 where
  pub some : (front : List Place) (rest : List Lexeme) (a : A) → F.takes front rest a → 0 < length front

pub takes_next : {E : Type 0} → Takes (next {E = E})
takes_next = record { some = λ words rest a h. rw h (omega arith) }

pub takes_one : {E A : Type 0} (test : Place → Result A E) → Takes (one test)
takes_one test = record { some = λ words rest a h. rw h.1 (omega arith) }

pub takes_admit : {E A : Type 0} (meaning : Place → Option A) → Takes (admit {E = E} meaning)
takes_admit meaning = record { some = λ words rest a h. rw h.1 (omega arith) }

pub takes_bind : {E A B : Type 0} (F : Form E A) (G : A → Form E B) → Takes F → Takes (F >>= G)
takes_bind F G t = record {
  some = λ words rest b h.
      let some = t.some h.1 (put h.2 rest) h.0 h.4 in
      omega (arith, ap length h.3, length-append h.1 h.2);
}

-- what comes first takes a word
pub consumes_bind : {E A S : Type 0} (F : Form E A) (G : A → Form E (Turn S)) → Takes F → Consumes (F >>= G)
consumes_bind F G t = record {
  some = λ words rest u h.
      let some = t.some h.1 (put h.2 rest) h.0 h.4 in
      omega (arith, ap length h.3, length-append h.1 h.2);
}

-- a first word by a test
pub consumes_next : {E S : Type 0} (G : Place → Form E (Turn S)) → Consumes (next >>= G)
consumes_next G = consumes_bind next G takes_next

pub consumes_one : {E A S : Type 0} (test : Place → Result A E) (G : A → Form E (Turn S)) → Consumes (one test >>= G)
consumes_one test G = consumes_bind (one test) G (takes_one test)

pub consumes_admit : {E A S : Type 0} (meaning : Place → Option A) (G : A → Form E (Turn S)) → Consumes (admit meaning >>= G)
consumes_admit meaning G = consumes_bind (admit meaning) G (takes_admit meaning)

-- what comes later takes a word
pub consumes_later : {E A S : Type 0} (F : Form E A) (G : A → Form E (Turn S)) → ((a : A) → Consumes (G a)) → Consumes (F >>= G)
consumes_later F G t = record {
  some = λ words rest u h.
      let some = (t h.0).some h.2 rest u h.5 in
      omega (arith, ap length h.3, length-append h.1 h.2);
}

pub consumes_done : {E S : Type 0} (s : S) → Consumes (done {E = E} (Done s))
consumes_done s = record { some = λ words rest u h. absurd cc }

pub consumes_choose : {E S : Type 0} (b : Bool) (F G : Form E (Turn S)) → Consumes F → Consumes G → Consumes (choose b F G)
consumes_choose true F G l g = record { some = l.some }
consumes_choose false F G l g = record { some = g.some }

pub consumes_unless : {E S : Type 0} (stops : Option Place → Bool) (body : S → Form E (Turn S)) (s : S) → Consumes (body s) → Consumes (unless stops body s)
consumes_unless stops body s c = consumes_later look (λ w. choose (stops w) (done (Done s)) (body s)) (λ w. consumes_choose (stops w) (done (Done s)) (body s) (consumes_done s) c)

pub length_put : (front : List Place) (rest : List Lexeme) → length (put front rest) ≡ length front + length rest
length_put [] rest = omega arith
length_put (p ∷ front) rest = omega (arith, length_put front rest)

abbrev pub then_turns : {E S : Type 0} → Faults E → (S → Form E (Turn S)) → ℕ → Read E (Turn S) → Read E S
then_turns f body n r = and_then r (λ x. after_turn (turns f body n) x.0 x.1)

loop_found : {E S : Type 0} (f : Faults E) (body : S → Form E (Turn S)) (l : (s : S) → Lawful (body s)) (fuel : ℕ) (s t : S) (ws rest : List Lexeme)
    → turns f body fuel s ws ≡ Ok (t, rest) → (front : List Place) × (ws ≡ put front rest) × (loop body s).takes front rest t
unfolding turns
loop_found f body l zero s t ws rest h = absurd cc
loop_found {E} {S} f body l (suc n) s t ws rest h =
    let x = bind_ok ((body s).read f ws) _ (t, rest) h in
    go x.0.0 x.0.1 x.1 x.2 (λ u vs q. loop_found f body l n u t vs rest q)
  where
    go : (y : Turn S) (vs : List Lexeme) → (body s).read f ws ≡ Ok (y, vs) → after_turn (turns f body n) y vs ≡ Ok (t, rest)
        → ((u : S) (us : List Lexeme) → turns f body n u us ≡ Ok (t, rest) → (front : List Place) × (us ≡ put front rest) × (loop body u).takes front rest t)
        → (front : List Place) × (ws ≡ put front rest) × (loop body s).takes front rest t
    go (More u) vs p q again =
        let m = (l s).found f ws vs (More u) p in
        let r = again u vs q in
        let P = λ (v : List Lexeme). (body s).takes m.0 v (More u) in
        (m.0 ++ r.0, m.1 ∙ ap (put m.0) r.1 ∙ sym (put_append m.0 r.0 rest), (suc r.2.0, (u, m.0, r.0, refl, subst P r.1 m.2, r.2.1)))
    go (Done u) vs p q again =
        let same : (u, vs) ≡ (t, rest) = ok_is {E = E} (u, vs) (t, rest) q in
        let m = (l s).found f ws vs (Done u) p in
        (m.0, m.1 ∙ ap (λ (y : S × List Lexeme). put m.0 y.1) same, (0, subst (λ (y : S × List Lexeme). (body s).takes m.0 y.1 (Done y.0)) same m.2))

loop_only : {E S : Type 0} (f : Faults E) (body : S → Form E (Turn S)) (l : (s : S) → Lawful (body s)) (c : (s : S) → Consumes (body s)) (n fuel : ℕ) (s t : S) (words : List Place) (rest : List Lexeme)
    → length (put words rest) < fuel → Turns body n s words rest t → turns f body fuel s (put words rest) ≡ Ok (t, rest)
unfolding turns
loop_only f body l c n zero s t words rest lt h = absurd (omega arith)
loop_only f body l c zero (suc m) s t words rest lt h = ap (then_turns f body m) ((l s).only f words rest (Done t) h)
loop_only f body l c (suc n) (suc m) s t words rest lt h =
    let u = h.0 in
    let front = h.1 in
    let back = h.2 in
    let e : put words rest ≡ put front (put back rest) = rw h.3 (put_append front back rest) in
    let some = (c s).some front (put back rest) u h.4 in
    let small : length (put back rest) < m = omega (arith, length_put front (put back rest), ap length e) in
    let one : turns f body (suc m) s (put front (put back rest)) ≡ turns f body m u (put back rest) = ap (then_turns f body m) ((l s).only f front (put back rest) (More u) h.4) in
    ap (turns f body (suc m) s) e ∙ one ∙ loop_only f body l c n m u t back rest small h.5

loop_refused : {E S : Type 0} (f : Faults E) (body : S → Form E (Turn S)) (l : (s : S) → Lawful (body s)) (c : (s : S) → Consumes (body s)) (fuel : ℕ) (s : S) (ws : List Lexeme) (e : E)
    → length ws < fuel → turns f body fuel s ws ≡ Err e → (loop body s).refuses f ws e
unfolding turns
loop_refused f body l c zero s ws e lt h = absurd (omega arith)
loop_refused {E} {S} f body l c (suc m) s ws e lt h =
    elim (bind_err ((body s).read f ws) _ e h) [
      | inl y ↦ (0, (l s).refused f ws e y)
      | inr x ↦ go x.0.0 x.0.1 x.1 x.2 (λ u vs less q. loop_refused f body l c m u vs e less q)
    ]
  where
    go : (y : Turn S) (vs : List Lexeme) → (body s).read f ws ≡ Ok (y, vs) → after_turn (turns f body m) y vs ≡ Err e
        → ((u : S) (us : List Lexeme) → length us < m → turns f body m u us ≡ Err e → (loop body u).refuses f us e) → (loop body s).refuses f ws e
    go (More u) vs p q again =
        let y = (l s).found f ws vs (More u) p in
        let some = (c s).some y.0 vs u y.2 in
        let r = again u vs (omega (arith, length_put y.0 vs, ap length y.1)) q in
        (suc r.0, (u, y.0, vs, y.1, y.2, r.1))
    go (Done u) vs p q again = absurd cc

loop_refuses : {E S : Type 0} (f : Faults E) (body : S → Form E (Turn S)) (l : (s : S) → Lawful (body s)) (c : (s : S) → Consumes (body s)) (n fuel : ℕ) (s : S) (ws : List Lexeme) (e : E)
    → length ws < fuel → RefusesTurn f body n s ws e → turns f body fuel s ws ≡ Err e
unfolding turns
loop_refuses f body l c n zero s ws e lt h = absurd (omega arith)
loop_refuses f body l c zero (suc m) s ws e lt h = ap (then_turns f body m) ((l s).refuses f ws e h)
loop_refuses f body l c (suc n) (suc m) s ws e lt h =
    let u = h.0 in
    let front = h.1 in
    let some = (c s).some front h.2 u h.4 in
    let small : length h.2 < m = omega (arith, length_put front h.2, ap length h.3) in
    let one : turns f body (suc m) s (put front h.2) ≡ turns f body m u h.2 = ap (then_turns f body m) ((l s).only f front h.2 (More u) h.4) in
    ap (turns f body (suc m) s) h.3 ∙ one ∙ loop_refuses f body l c n m u h.2 e small h.5

pub lawful_loop : {E S : Type 0} (body : S → Form E (Turn S)) (s : S) → ((u : S) → Lawful (body u)) → ((u : S) → Consumes (body u)) → Lawful (loop body s)
lawful_loop body s l c = record {
  found = λ f ws rest t h. loop_found f body l (suc (length ws)) s t ws rest h;
  only = λ f words rest t h. loop_only f body l c h.0 (suc (length (put words rest))) s t words rest (omega arith) h.1;
  refused = λ f ws e h. loop_refused f body l c (suc (length ws)) s ws e (omega arith) h;
  refuses = λ f ws e h. loop_refuses f body l c h.0 (suc (length ws)) s ws e (omega arith) h.1;
}

pub lawful_unless : {E S : Type 0} (stops : Option Place → Bool) (body : S → Form E (Turn S)) (s : S) → Lawful (body s) → Lawful (unless stops body s)
lawful_unless stops body s l = lawful_bind look (λ w. choose (stops w) (done (Done s)) (body s)) lawful_look (λ w. lawful_choose (stops w) (done (Done s)) (body s) (lawful_check _) l)

-- ---- whole texts

pub lawful_whole : {E A : Type 0} (F : Form E A) → Lawful F → Lawful (whole F)
lawful_whole F l = lawful_bind F (λ a. nothing >>= λ x. done a) l (λ a. lawful_bind nothing (λ x. done a) lawful_nothing (λ x. lawful_check _))

pub lawful_text : {E S : Type 0} (body : S → Form E (Turn S)) (s : S) → ((u : S) → Lawful (body u)) → ((u : S) → Consumes (body u)) → Lawful (text body s)
lawful_text body s l c = lawful_whole (loop (unless no_word body) s)
    (lawful_loop (unless no_word body) s (λ u. lawful_unless no_word body u (l u)) (λ u. consumes_unless no_word body u (c u)))

-- ---- at most one value, and either a value or a fault

pub one_value : {E A : Type 0} (F : Form E A) → Lawful F → Faults E → (front front' : List Place) (rest rest' : List Lexeme) (a a' : A) → F.takes front rest a → F.takes front' rest' a' → put front rest ≡ put front' rest' → (let x : A × List Lexeme = (a, rest) in x) ≡ (a', rest')
one_value {E} F l f front front' rest rest' a a' h h' e =
    ok_is {E = E} (a, rest) (a', rest') (sym (l.only f front rest a h) ∙ ap (F.read f) e ∙ l.only f front' rest' a' h')

pub one_fault : {E A : Type 0} (F : Form E A) → Lawful F → (f : Faults E) (ws : List Lexeme) (d e : E) → F.refuses f ws d → F.refuses f ws e → d ≡ e
one_fault F l f ws d e h h' = let p = sym (l.refuses f ws d h) ∙ l.refuses f ws e h' in cc

pub no_fault : {E A : Type 0} (F : Form E A) → Lawful F → (f : Faults E) (front : List Place) (rest : List Lexeme) (a : A) (e : E) → F.takes front rest a → F.refuses f (put front rest) e → ⊥
no_fault F l f front rest a e h h' = let p = sym (l.only f front rest a h) ∙ l.refuses f (put front rest) e h' in cc

-- ---- rules for `search`

pub ruleset lawful = (lawful_bind, lawful_next, lawful_one, lawful_admit, lawful_check, lawful_look, lawful_nothing, lawful_choose)

pub ruleset consuming = (consumes_next, consumes_one, consumes_admit, consumes_done, consumes_choose)
