-- Words that are taken are no longer left.
use Rattle.std.proofs.Common.{◌≡◌, ◌≤◌, ◌<◌, ◌+◌, ℕ, Bool, true, false, List, [], ◌∷◌, length, Ok, refl, ap, arith, if◌then◌else◌}
use Rattle.rt_forms.specs.Lexeme.{Lexeme, At, End, Place, put}
use Rattle.rt_forms.specs.Form.{Faults, Form, next, next_of}
use Rattle.rt_forms.specs.Reading.{left_of, from_first}
use Rattle.rt_forms.proofs.Laws.{Lawful, Takes, lawful_next}
use Rattle.def_text.specs.Faults.{def_faults}
use Rattle.def_text.specs.Defs.{IsRange}

left_put : (front : List Place) (rest : List Lexeme) → left_of (put front rest) ≡ length front + left_of rest
left_put [] rest = omega arith
left_put (p ∷ front) rest = omega (arith, left_put front rest)

-- what a form read is no longer left
pub left_read : {E A : Type 0} (f : Faults E) (F : Form E A) → Lawful F → (ws rest : List Lexeme) (a : A) → F.read f ws ≡ Ok (a, rest) → left_of rest ≤ left_of ws
left_read f F l ws rest a h =
    let m = l.found f ws rest a h in
    omega (arith, ap left_of m.1, left_put m.0 rest)

-- of a form that takes a word
pub left_taken : {E A : Type 0} (f : Faults E) (F : Form E A) → Lawful F → Takes F → (ws rest : List Lexeme) (a : A) → F.read f ws ≡ Ok (a, rest) → left_of rest < left_of ws
left_taken f F l t ws rest a h =
    let m = l.found f ws rest a h in
    let some = t.some m.0 rest a m.2 in
    omega (arith, ap left_of m.1, left_put m.0 rest)

pub left_from_first : (test : List ℕ → Bool) (ws : List Lexeme) → left_of (from_first test ws) ≤ left_of ws
left_from_first test [] = omega arith
left_from_first test (End line ∷ ws) = omega arith
left_from_first test (At line first word ∷ ws) = go (left_from_first test ws) (test word) refl
  where
    go : left_of (from_first test ws) ≤ left_of ws → (b : Bool) → test word ≡ b → left_of (from_first test (At line first word ∷ ws)) ≤ left_of (At line first word ∷ ws)
    go again true e = rw e (omega arith)
    go again false e = rw e (omega (arith, again))

pub left_next : (ws vs : List Lexeme) (w : Place) → next_of def_faults ws ≡ Ok (w, vs) → left_of vs ≤ left_of ws
left_next ws vs w h = left_read def_faults next lawful_next ws vs w h

-- one of two ranges that end here
pub range_of_choice : (total plus behind past : ℕ) (alone : Bool) → plus ≤ past → behind ≤ past → past ≤ total → IsRange total (if alone then (plus, past) else (behind, past))
range_of_choice total plus behind past true before after within = (before, within)
range_of_choice total plus behind past false before after within = (after, within)
