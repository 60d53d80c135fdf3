-- The turns of a section's loop: one more item, or the end.
use Rattle.std.proofs.Common.{◌≡◌, ℕ, Bool, true, false, List, [], ◌∷◌, ◌++◌, length, Err, codes, bytes_eq, refl, ap, sym, ◌∙◌, subst, append-nil}
use Rattle.std.proofs.lemmas.Slice.Eq.{bytes_eq-Decides}
use Rattle.rt_forms.specs.Lexeme.{Lexeme, Place, put}
use Rattle.rt_forms.specs.Form.{Form, check, done, ◌>>=◌, choose, Turn, More, Done}
use Rattle.def_text.specs.declared.error.DefError.{DefError}
use Rattle.def_text.specs.declared.error.DefError.TheVariants.{Expected}
use Rattle.def_text.specs.declared.sections.Listed.{Listed}
use Rattle.def_text.specs.Sections.{section_end, more_items}
use Rattle.def_again.proofs.Routed.{by_word}

-- `-` and an item
pub record IsItemTurn {A : Type 0} (item : Form DefError (Listed A)) (words : List Place) (rest : List Lexeme) (m : Listed A) : Type 0 where
  pub dash : Place
  pub behind : List Place
  pub whole : words ≡ dash ∷ behind
  pub is_dash : dash.word ≡ codes "-"
  pub taken : item.takes behind rest m

-- `END` and the end
pub record IsEndTurn {A : Type 0} (section : List ℕ) (said : ℕ) (words : List Place) (rest : List Lexeme) (l t : Listed A) : Type 0 where
  pub word : Place
  pub behind : List Place
  pub whole : words ≡ word ∷ behind
  pub is_end : word.word ≡ codes "END"
  pub taken : (section_end section said (length l.items)).takes behind rest tt
  pub same : t ≡ l

-- a turn at its first word
abbrev arm : {A : Type 0} → List ℕ → ℕ → Form DefError (Listed A) → Listed A → ℕ → Bool → Bool → Form DefError (Turn (Listed A))
arm section said item l line dash end =
    choose dash (item >>= (λ m. done (More m))) (
    choose end (section_end section said (length l.items) >>= (λ x. done (Done l))) (
    check (Err (Expected line))))

record IsItemAlone {A : Type 0} (item : Form DefError (Listed A)) (words : List Place) (rest : List Lexeme) (m : Listed A) (dash : Bool) : Type 0 where
  is_dash : dash ≡ true
  taken : item.takes words rest m

arm_more : {A : Type 0} (section : List ℕ) (said : ℕ) (item : Form DefError (Listed A)) (l m : Listed A) (line : ℕ) (dash end : Bool) (words : List Place) (rest : List Lexeme) → (arm section said item l line dash end).takes words rest (More m) → IsItemAlone item words rest m dash
arm_more {A} section said item l m line true end words rest h =
    let g = h.5.1 in
    let same : h.0 ≡ m = cc in
    let whole : h.1 ≡ words = sym (h.3 ∙ ap (λ (v : List Place). h.1 ++ v) h.5.0 ∙ append-nil h.1) in
    let a = subst (λ (v : List Place). item.takes h.1 (put v rest) h.0) h.5.0 h.4 in
    let b = subst (λ (v : List Place). item.takes v rest h.0) whole a in
    record { is_dash = refl; taken = subst (λ (v : Listed A). item.takes words rest v) same b }
arm_more section said item l m line false true words rest h = let g = h.5.1 in absurd cc
arm_more section said item l m line false false words rest h = let g = h.1 in absurd cc

record IsEndAlone {A : Type 0} (section : List ℕ) (said : ℕ) (words : List Place) (rest : List Lexeme) (l t : Listed A) (end : Bool) : Type 0 where
  is_end : end ≡ true
  taken : (section_end section said (length l.items)).takes words rest tt
  same : t ≡ l

arm_done : {A : Type 0} (section : List ℕ) (said : ℕ) (item : Form DefError (Listed A)) (l t : Listed A) (line : ℕ) (dash end : Bool) (words : List Place) (rest : List Lexeme) → (arm section said item l line dash end).takes words rest (Done t) → IsEndAlone section said words rest l t end
arm_done section said item l t line true end words rest h = let g = h.5.1 in absurd cc
arm_done section said item l t line false true words rest h =
    let g = h.5.1 in
    let F = section_end section said (length l.items) in
    let whole : h.1 ≡ words = sym (h.3 ∙ ap (λ (v : List Place). h.1 ++ v) h.5.0 ∙ append-nil h.1) in
    let a = subst (λ (v : List Place). F.takes h.1 (put v rest) tt) h.5.0 h.4 in
    record { is_end = refl; taken = subst (λ (v : List Place). F.takes v rest tt) whole a; same = cc }
arm_done section said item l t line false false words rest h = let g = h.1 in absurd cc

pub item_turn : {A : Type 0} (section : List ℕ) (said : ℕ) (item : Listed A → Form DefError (Listed A)) (l m : Listed A) (words : List Place) (rest : List Lexeme) → (more_items section said item l).takes words rest (More m) → IsItemTurn (item l) words rest m
unfolding more_items
item_turn section said item l m words rest h =
    let w = h.0 in
    let a = arm_more section said (item l) l m w.line (bytes_eq w.word (codes "-")) (bytes_eq w.word (codes "END")) h.2 rest h.5 in
    record { dash = w; behind = h.2; whole = h.3 ∙ ap (λ (v : List Place). v ++ h.2) h.4; is_dash = (bytes_eq-Decides w.word (codes "-")).0 a.is_dash; taken = a.taken }

pub end_turn : {A : Type 0} (section : List ℕ) (said : ℕ) (item : Listed A → Form DefError (Listed A)) (l t : Listed A) (words : List Place) (rest : List Lexeme) → (more_items section said item l).takes words rest (Done t) → IsEndTurn section said words rest l t
unfolding more_items
end_turn section said item l t words rest h =
    let w = h.0 in
    let a = arm_done section said (item l) l t w.line (bytes_eq w.word (codes "-")) (bytes_eq w.word (codes "END")) h.2 rest h.5 in
    record { word = w; behind = h.2; whole = h.3 ∙ ap (λ (v : List Place). v ++ h.2) h.4; is_end = (bytes_eq-Decides w.word (codes "END")).0 a.is_end; taken = a.taken; same = a.same }

item_at : {A : Type 0} (section : List ℕ) (said : ℕ) (item : Listed A → Form DefError (Listed A)) (l m : Listed A) (line first : ℕ) (behind : List Place) (rest : List Lexeme) → (item l).takes behind rest m
    → (more_items section said item l).takes (record { line = line; first = first; word = codes "-" } ∷ behind) rest (More m)
unfolding more_items
item_at section said item l m line first behind rest h =
    let dash : Place = record { line = line; first = first; word = codes "-" } in
    (dash, dash ∷ [], behind, refl, refl, (m, behind, [], sym (append-nil behind), h, (refl, refl)))

-- `-` and an item are a turn
pub turn_of_item : {A : Type 0} (section : List ℕ) (said : ℕ) (item : Listed A → Form DefError (Listed A)) (l m : Listed A) (dash : Place) (behind : List Place) (rest : List Lexeme) → dash.word ≡ codes "-" → (item l).takes behind rest m
    → (more_items section said item l).takes (dash ∷ behind) rest (More m)
turn_of_item section said item l m dash behind rest e h = by_word (λ (p : Place). (more_items section said item l).takes (p ∷ behind) rest (More m)) (codes "-") (λ line first. item_at section said item l m line first behind rest h) dash e

end_at : {A : Type 0} (section : List ℕ) (said : ℕ) (item : Listed A → Form DefError (Listed A)) (l : Listed A) (line first : ℕ) (behind : List Place) (rest : List Lexeme) → (section_end section said (length l.items)).takes behind rest tt
    → (more_items section said item l).takes (record { line = line; first = first; word = codes "END" } ∷ behind) rest (Done l)
unfolding more_items
end_at section said item l line first behind rest h =
    let word : Place = record { line = line; first = first; word = codes "END" } in
    (word, word ∷ [], behind, refl, refl, (tt, behind, [], sym (append-nil behind), h, (refl, refl)))

-- `END` and the end are a turn
pub turn_of_end : {A : Type 0} (section : List ℕ) (said : ℕ) (item : Listed A → Form DefError (Listed A)) (l : Listed A) (word : Place) (behind : List Place) (rest : List Lexeme) → word.word ≡ codes "END" → (section_end section said (length l.items)).takes behind rest tt
    → (more_items section said item l).takes (word ∷ behind) rest (Done l)
turn_of_end section said item l word behind rest e h = by_word (λ (p : Place). (more_items section said item l).takes (p ∷ behind) rest (Done l)) (codes "END") (λ line first. end_at section said item l line first behind rest h) word e
