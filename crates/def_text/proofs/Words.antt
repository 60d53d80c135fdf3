-- That a word is left is lawful.
use Rattle.std.proofs.Common.{◌≡◌, List, [], ◌∷◌, false, Ok, Err, refl, sym, ap}
use Rattle.rt_forms.specs.Lexeme.{Lexeme, At, End, Place, put, is_end}
use Rattle.rt_forms.specs.Form.{Faults}
use Rattle.rt_forms.proofs.Laws.{Lawful, ok_is}
use Rattle.def_text.specs.Polygons.{some_left, a_word_is_left}

word_left_found : {E : Type 0} (f : Faults E) (ws rest : List Lexeme) (a : Unit {0}) → some_left f ws ≡ Ok (a, rest) → (front : List Place) × (ws ≡ put front rest) × (a_word_is_left {E = E}).takes front rest a
word_left_found f [] rest a h = absurd cc
word_left_found f (End line ∷ ws) rest a h = absurd cc
word_left_found {E} f (At line first word ∷ ws) rest a h =
    let same : (tt, At line first word ∷ ws) ≡ (a, rest) = ok_is {E = E} (tt, At line first word ∷ ws) (a, rest) h in
    let e = ap (λ (p : Unit {0} × List Lexeme). p.1) same in
    ([], e, (refl, ap is_end (sym e)))

word_left_only : {E : Type 0} (f : Faults E) (rest : List Lexeme) → is_end rest ≡ false → some_left f rest ≡ Ok (tt, rest)
word_left_only f [] h = absurd cc
word_left_only f (End line ∷ ws) h = absurd cc
word_left_only f (At line first word ∷ ws) h = refl

word_left_refused : {E : Type 0} (f : Faults E) (ws : List Lexeme) (e : E) → some_left f ws ≡ Err e → (a_word_is_left {E = E}).refuses f ws e
word_left_refused f [] e h = cc
word_left_refused f (End line ∷ ws) e h = cc
word_left_refused f (At line first word ∷ ws) e h = absurd cc

word_left_refuses : {E : Type 0} (f : Faults E) (ws : List Lexeme) (e : E) → (a_word_is_left {E = E}).refuses f ws e → some_left f ws ≡ Err e
word_left_refuses f [] e h = rw h refl
word_left_refuses f (End line ∷ ws) e h = rw h refl
word_left_refuses f (At line first word ∷ ws) e h = absurd h

pub lawful_word_left : {E : Type 0} → Lawful (a_word_is_left {E = E})
lawful_word_left = record {
  found = word_left_found;
  only = λ f front rest a h. rw h.0 (word_left_only f rest h.1);
  refused = word_left_refused;
  refuses = word_left_refuses;
}
