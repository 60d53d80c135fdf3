-- The units that are read of a beginning of a text are those of the whole text, and what refuses the beginning refuses the text.
use Rattle.std.proofs.Common.{◌≡◌, ℕ, zero, suc, List, [], ◌∷◌, Result, Ok, Err, Option, Some, None, length, ap, sym, subst, ◌∙◌, refl, codes}
use Rattle.rt_base.specs.declared.token.Token.{Token}
use Rattle.rt_base.specs.Sides.{Sides}
use Rattle.rt_forms.specs.Lexeme.{Lexeme, End, Place, places, last_line, lexemes}
use Rattle.rt_forms.specs.Form.{Read, check, loop, nothing_of, and_then, with_rest, Turn, More, Done, turns, after_turn, loop_of}
use Rattle.rt_forms.specs.Reading.{left_of}
use Rattle.rt_forms.specs.Clauses.{IsText, IsRefused}
use Rattle.rt_forms.proofs.Laws.{bind_ok, ok_is}
use Rattle.def_text.specs.Faults.{def_faults}
use Rattle.def_text.specs.declared.error.DefError.{DefError}
use Rattle.def_text.specs.declared.error.DefError.TheVariants.{Missing}
use Rattle.def_text.specs.declared.def.Def.{Def}
use Rattle.def_text.specs.declared.statements.Parsed.{Parsed}
use Rattle.def_text.specs.Clauses.{Begins}
use Rattle.def_text.specs.Parts.{once}
use Rattle.def_text.specs.Sections.{said_count, more_items}
use Rattle.def_text.specs.Nets.{net_item}
use Rattle.def_text.specs.Texts.{nothing_read, units_statement, nets_section, statement, finished_of, finished, a_def, def_form, stop_where, stop_at_units, until_units, units_form, units_or_missing}
use Rattle.def_text.proofs.Closes.{Leads, Lasts, ByTurn, leads_bind, leads_check, leads_done}
use Rattle.def_text.proofs.Staying.{step, statement_stays, special_stays}
use Rattle.def_text.proofs.Grammar.{lawful_def, lawful_units, lawful_statement}

-- ---- units that stand stay

abbrev Has : ℕ → Parsed → List Lexeme → Type 0
Has n s ws = s.units ≡ Some n

abbrev Keeps : ℕ → Turn Parsed → List Lexeme → Type 0
Keeps n = ByTurn (Has n) (Has n)

has_lasts : (n : ℕ) (s : Parsed) → Lasts (Has n s)
has_lasts n s = record { rest = λ front rest p. p }

twice : (n : ℕ) (u : Option ℕ) (w : Place) (x : Unit {0}) → u ≡ Some n → once u w ≡ Ok x → ⊥
twice n None w x e h = absurd cc
twice n (Some m) w x e h = absurd cc

units_keeps : (n : ℕ) (w : Place) (s : Parsed) → Leads (Has n s) (units_statement w s) (Keeps n)
unfolding units_statement
units_keeps n w s = leads_bind (Has n s) (check (once s.units w)) (λ a ws. ⊥) _ _ (leads_check (Has n s) (once s.units w) (λ a ws. ⊥) (λ a ws e p. twice n s.units w a p e)) (λ a. record { to = λ front rest b h p. absurd p })

nets_keep : (n : ℕ) (w : Place) (s : Parsed) → Leads (Has n s) (nets_section w s) (Keeps n)
unfolding nets_section
nets_keep n w s =
    step (Has n) (has_lasts n) s (check (once s.nets w)) _ _ (λ a.
    step (Has n) (has_lasts n) s said_count _ _ (λ said.
    step (Has n) (has_lasts n) s (loop (more_items (codes "NETS") said (net_item s.total)) (record { names = []; items = []; skipped = s.skipped })) _ _ (λ l.
    leads_done (Has n s) (More (record s { nets = Some l.items; skipped = l.skipped })) (Keeps n) (λ ws p. p))))

statement_keeps : (n : ℕ) (s : Parsed) → Leads (Has n s) (statement s) (Keeps n)
statement_keeps n s = statement_stays (Has n) (record { lasts = has_lasts n; same = λ s t ws units nets special p. units ∙ p; units = units_keeps n; nets = nets_keep n; special = special_stays (Has n) (has_lasts n) (λ s t ws units nets p. units ∙ p) }) s

turns_keep : (n fuel : ℕ) (s t : Parsed) (ws rest : List Lexeme) → s.units ≡ Some n → turns def_faults statement fuel s ws ≡ Ok (t, rest) → t.units ≡ Some n
unfolding turns
turns_keep n zero s t ws rest e h = absurd cc
turns_keep n (suc fuel) s t ws rest e h =
    let x = bind_ok ((statement s).read def_faults ws) _ (t, rest) h in
    let m = (lawful_statement s).found def_faults ws x.0.1 x.0.0 x.1 in
    go (λ u vs k q. turns_keep n fuel u t vs rest k q) x.0.0 x.0.1 x.2 ((statement_keeps n s).to m.0 x.0.1 x.0.0 m.2 e)
  where
    go : ((u : Parsed) (vs : List Lexeme) → u.units ≡ Some n → turns def_faults statement fuel u vs ≡ Ok (t, rest) → t.units ≡ Some n) → (y : Turn Parsed) (vs : List Lexeme) → after_turn (turns def_faults statement fuel) y vs ≡ Ok (t, rest) → Keeps n y vs → t.units ≡ Some n
    go again (More u) vs q k = again u vs k q
    go again (Done u) vs q k = ap (λ (p : Parsed × List Lexeme). p.0.units) (sym (ok_is {E = DefError} (u, vs) (t, rest) q)) ∙ k

-- ---- the beginning of what is read

-- ---- a turn until the units

abbrev stopped : Read DefError (Turn Parsed) → Read DefError (Turn Parsed)
stopped r = and_then r (λ x. Ok (stop_at_units x.0, x.1))

stops : (s u : Parsed) (ws vs : List Lexeme) (o : Option ℕ) → (statement s).read def_faults ws ≡ Ok (More u, vs) → u.units ≡ o → (until_units s).read def_faults ws ≡ Ok (stop_where o u, vs)
unfolding until_units
stops s u ws vs o p e = ap stopped p ∙ ap (λ (x : Option ℕ). Ok (stop_where x u, vs)) e

last : (s u : Parsed) (ws vs : List Lexeme) → (statement s).read def_faults ws ≡ Ok (Done u, vs) → (until_units s).read def_faults ws ≡ Ok (Done u, vs)
unfolding until_units
last s u ws vs p = ap stopped p

stuck : (s : Parsed) (ws : List Lexeme) (d : DefError) → (statement s).read def_faults ws ≡ Err d → (until_units s).read def_faults ws ≡ Err d
unfolding until_units
stuck s ws d p = ap stopped p

-- what reading until the units gives, where reading on gives this
record Before (fuel : ℕ) (s : Parsed) (ws : List Lexeme) (t : Parsed) : Type 0 where
  rest : List Lexeme
  last : Parsed
  same : last.units ≡ t.units
  read : turns def_faults until_units fuel s ws ≡ Ok (last, rest)

before : (fuel : ℕ) (s t : Parsed) (ws rest : List Lexeme) → turns def_faults statement fuel s ws ≡ Ok (t, rest) → Before fuel s ws t
unfolding turns
before zero s t ws rest h = absurd cc
before (suc fuel) s t ws rest h = go (λ u vs q. before fuel u t vs rest q) ((statement s).read def_faults ws) refl
  where
    more : (u : Parsed) (vs : List Lexeme) (o : Option ℕ) → u.units ≡ o → (statement s).read def_faults ws ≡ Ok (More u, vs) → turns def_faults statement fuel u vs ≡ Ok (t, rest)
        → (turns def_faults statement fuel u vs ≡ Ok (t, rest) → Before fuel u vs t) → Before (suc fuel) s ws t
    more u vs None e p q again = let b = again q in record { rest = b.rest; last = b.last; same = b.same; read = rw (stops s u ws vs None p e) b.read }
    more u vs (Some n) e p q again = record { rest = vs; last = u; same = e ∙ sym (turns_keep n fuel u t vs rest e q); read = rw (stops s u ws vs (Some n) p e) refl }

    one_turn : ((u : Parsed) (vs : List Lexeme) → turns def_faults statement fuel u vs ≡ Ok (t, rest) → Before fuel u vs t) → (y : Turn Parsed) (vs : List Lexeme) → (statement s).read def_faults ws ≡ Ok (y, vs) → Before (suc fuel) s ws t
    one_turn again (More u) vs p = more u vs u.units refl p (rw p at h) (again u vs)
    one_turn again (Done u) vs p = record { rest = vs; last = u; same = ap (λ (v : Parsed × List Lexeme). v.0.units) (ok_is {E = DefError} (u, vs) (t, rest) (rw p at h)); read = rw (last s u ws vs p) refl }

    go : ((u : Parsed) (vs : List Lexeme) → turns def_faults statement fuel u vs ≡ Ok (t, rest) → Before fuel u vs t) → (r : Read DefError (Turn Parsed)) → (statement s).read def_faults ws ≡ r → Before (suc fuel) s ws t
    go again (Ok x) p = one_turn again x.0 x.1 p
    go again (Err d) p = let q = rw p at h in absurd cc

-- what stops the beginning stops the whole
fails : (fuel : ℕ) (s : Parsed) (ws : List Lexeme) (e : DefError) → turns def_faults until_units fuel s ws ≡ Err e → turns def_faults statement fuel s ws ≡ Err e
unfolding turns
fails zero s ws e h = h
fails (suc fuel) s ws e h = go (λ u vs q. fails fuel u vs e q) ((statement s).read def_faults ws) refl
  where
    more : (u : Parsed) (vs : List Lexeme) (o : Option ℕ) → u.units ≡ o → (statement s).read def_faults ws ≡ Ok (More u, vs)
        → (turns def_faults until_units fuel u vs ≡ Err e → turns def_faults statement fuel u vs ≡ Err e) → turns def_faults statement (suc fuel) s ws ≡ Err e
    more u vs None k p again = rw p (again (rw (stops s u ws vs None p k) at h))
    more u vs (Some n) k p again = let q = rw (stops s u ws vs (Some n) p k) at h in absurd cc

    one_turn : ((u : Parsed) (vs : List Lexeme) → turns def_faults until_units fuel u vs ≡ Err e → turns def_faults statement fuel u vs ≡ Err e) → (y : Turn Parsed) (vs : List Lexeme) → (statement s).read def_faults ws ≡ Ok (y, vs)
        → turns def_faults statement (suc fuel) s ws ≡ Err e
    one_turn again (More u) vs p = more u vs u.units refl p (again u vs)
    one_turn again (Done u) vs p = let q = rw (last s u ws vs p) at h in absurd cc

    go : ((u : Parsed) (vs : List Lexeme) → turns def_faults until_units fuel u vs ≡ Err e → turns def_faults statement fuel u vs ≡ Err e) → (r : Read DefError (Turn Parsed)) → (statement s).read def_faults ws ≡ r
        → turns def_faults statement (suc fuel) s ws ≡ Err e
    go again (Ok x) p = one_turn again x.0 x.1 p
    go again (Err d) p = rw p (rw (stuck s ws d p) at h)

-- a beginning without units is the whole
ends : (fuel : ℕ) (s t : Parsed) (ws rest : List Lexeme) → turns def_faults until_units fuel s ws ≡ Ok (t, rest) → t.units ≡ None → turns def_faults statement fuel s ws ≡ Ok (t, rest)
unfolding turns
ends zero s t ws rest h n = absurd cc
ends (suc fuel) s t ws rest h n = go (λ u vs q. ends fuel u t vs rest q n) ((statement s).read def_faults ws) refl
  where
    more : (u : Parsed) (vs : List Lexeme) (o : Option ℕ) → u.units ≡ o → (statement s).read def_faults ws ≡ Ok (More u, vs)
        → (turns def_faults until_units fuel u vs ≡ Ok (t, rest) → turns def_faults statement fuel u vs ≡ Ok (t, rest)) → turns def_faults statement (suc fuel) s ws ≡ Ok (t, rest)
    more u vs None k p again = rw p (again (rw (stops s u ws vs None p k) at h))
    more u vs (Some m) k p again =
        let q : u ≡ t = ap (λ (v : Parsed × List Lexeme). v.0) (ok_is {E = DefError} (u, vs) (t, rest) (rw (stops s u ws vs (Some m) p k) at h)) in
        let r : Some m ≡ None = sym k ∙ ap (λ (v : Parsed). v.units) q ∙ n in
        absurd cc

    one_turn : ((u : Parsed) (vs : List Lexeme) → turns def_faults until_units fuel u vs ≡ Ok (t, rest) → turns def_faults statement fuel u vs ≡ Ok (t, rest)) → (y : Turn Parsed) (vs : List Lexeme) → (statement s).read def_faults ws ≡ Ok (y, vs)
        → turns def_faults statement (suc fuel) s ws ≡ Ok (t, rest)
    one_turn again (More u) vs p = more u vs u.units refl p (again u vs)
    one_turn again (Done u) vs p = rw p (rw (last s u ws vs p) at h)

    go : ((u : Parsed) (vs : List Lexeme) → turns def_faults until_units fuel u vs ≡ Ok (t, rest) → turns def_faults statement fuel u vs ≡ Ok (t, rest)) → (r : Read DefError (Turn Parsed)) → (statement s).read def_faults ws ≡ r
        → turns def_faults statement (suc fuel) s ws ≡ Ok (t, rest)
    go again (Ok x) p = one_turn again x.0 x.1 p
    go again (Err d) p = let q = rw (stuck s ws d p) at h in absurd cc

finished_units : (s : Parsed) (d : Def) → finished s ≡ Ok d → s.units ≡ Some d.units
finished_units s d h = go s.units s.die h
  where
    go : (u : Option ℕ) (e : Option Sides) → finished_of u e s ≡ Ok d → u ≡ Some d.units
    go None e q = absurd cc
    go (Some u) None q = absurd cc
    go (Some u) (Some sides) q = ap (λ (x : Def). Some x.units) (ok_is {E = DefError} _ d q)

-- ---- from what is read to the grammar

ok_rest : {A : Type 0} (r : Result A DefError) (ws rest : List Lexeme) (a : A) → with_rest ws r ≡ Ok (a, rest) → r ≡ Ok a
ok_rest (Ok x) ws rest a h = ap (λ (p : _ × List Lexeme). Ok p.0) (ok_is {E = DefError} (x, ws) (a, rest) h)
ok_rest (Err e) ws rest a h = absurd cc

err_or : {A B : Type 0} (r : Result A DefError) (f : A → Result B DefError) (d : DefError) (P : Type 0) → and_then r f ≡ Err d → (r ≡ Err d → P) → ((x : A) → r ≡ Ok x → f x ≡ Err d → P) → P
err_or (Ok x) f d P h k g = g x refl h
err_or {A} (Err e) f d P h k g = let same : e ≡ d = cc in k (ap (λ (x : DefError). Err x) same)

missing : (o : Option ℕ) (s : Parsed) (ws : List Lexeme) (e : DefError) → s.units ≡ o → with_rest ws (units_or_missing o) ≡ Err e → (s.units ≡ None) × (Missing (codes "units") ≡ e)
missing None s ws e k h = (k, cc)
missing (Some n) s ws e k h = absurd cc

units_read : (ws rest : List Lexeme) (d : Def) → a_def.read def_faults ws ≡ Ok (d, rest) → (back : List Lexeme) × (units_form.read def_faults ws ≡ Ok (d.units, back))
unfolding a_def units_form
units_read ws rest d h =
    let z = bind_ok (loop_of def_faults statement (nothing_read (left_of ws)) ws) _ (d, rest) h in
    let b = before (suc (length ws)) (nothing_read (left_of ws)) z.0.0 ws z.0.1 z.1 in
    let u = b.same ∙ finished_units z.0.0 d (ok_rest (finished z.0.0) z.0.1 rest d z.2) in
    (b.rest, rw (b.read, u) refl)

-- a text that is read is one whose units are read
pub units_of_def : (text : List ℕ) (tokens : List Token) (d : Def) → IsText def_form text tokens d → Begins units_form (lexemes text tokens) d.units
units_of_def text tokens d h =
    let ws = lexemes text tokens in
    let x = bind_ok (a_def.read def_faults ws) _ (d, End (last_line tokens) ∷ []) (lawful_def.only def_faults (places text tokens) (End (last_line tokens) ∷ []) d h) in
    let y = bind_ok (nothing_of def_faults x.0.1) _ (d, End (last_line tokens) ∷ []) x.2 in
    let same : x.0.0 ≡ d = ap (λ (p : Def × List Lexeme). p.0) (ok_is {E = DefError} (x.0.0, y.0.1) (d, End (last_line tokens) ∷ []) y.2) in
    let u = units_read ws x.0.1 x.0.0 x.1 in
    let m = lawful_units.found def_faults ws u.0 x.0.0.units u.1 in
    subst (λ (n : Def). Begins units_form ws n.units) same (record { front = m.0; rest = u.0; same = m.1; taken = m.2 })

def_fails : (ws : List Lexeme) (e : DefError) → units_form.read def_faults ws ≡ Err e → a_def.read def_faults ws ≡ Err e
unfolding a_def units_form
def_fails ws e h =
    err_or (loop_of def_faults until_units (nothing_read (left_of ws)) ws) _ e (a_def.read def_faults ws ≡ Err e) h
    (λ k. rw (fails (suc (length ws)) (nothing_read (left_of ws)) ws e k) refl)
    (λ x k g.
    let m = missing x.0.units x.0 x.1 e refl g in
    rw (ends (suc (length ws)) (nothing_read (left_of ws)) x.0 ws x.1 k m.0, m.0) (ap (λ (d : DefError). Err d) m.1))

-- what refuses the beginning refuses the text
pub units_refused : (text : List ℕ) (tokens : List Token) (e : DefError) → IsRefused def_faults units_form text tokens e → IsRefused def_faults def_form text tokens e
units_refused text tokens e h =
    let ws = lexemes text tokens in
    lawful_def.refused def_faults ws e (rw (def_fails ws e (lawful_units.refuses def_faults ws e h)) refl)
