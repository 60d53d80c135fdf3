-- One more item of a section.
use Rattle.std.proofs.Common.{◌≡◌, ◌≢◌, ◌++◌, ◌<◌, ℕ, zero, suc, false, List, [], ◌∷◌, length, get_or, map, bytes_eq, All, ap, sym, ◌∙◌, arith, inl, inr, refl, ◌+◌, take, append_assoc, lit<}
use Rattle.std.specs.List.{list_any}
use Rattle.std.proofs.lemmas.Bool.{cases_Bool, both_ways}
use Rattle.std.proofs.lemmas.List.{map-append, take_more}
use Rattle.std.proofs.lemmas.List.Elements.{All-append, All-cons}
use Rattle.std.proofs.lemmas.List.Quantifiers.{all_pairs_push}
use Rattle.rt_words.proofs.Words.{differ}
use Rattle.def_text.specs.Defs.{IsRange}
use Rattle.def_text.specs.Wiring.{IsNetOf}
use Rattle.def_text.specs.declared.sections.Listed.{Listed}
use Rattle.def_text.specs.Sections.{AreListed}

none_named : {A : Type 0} (name : A → List ℕ) (w : List ℕ) (xs : List A) → list_any (bytes_eq w) (map name xs) ≡ false → All (λ x. w ≢ name x) xs
none_named name w [] none i d lt = absurd (omega arith)
none_named name w (x ∷ xs) none zero d lt =
    elim (cases_Bool (bytes_eq w (name x))) [
      | inl hit ↦ absurd (both_ways _ none (rw hit refl))
      | inr miss ↦ differ w (name x) miss
    ]
none_named name w (x ∷ xs) none (suc i) d lt =
    elim (cases_Bool (bytes_eq w (name x))) [
      | inl hit ↦ absurd (both_ways _ none (rw hit refl))
      | inr miss ↦ none_named name w xs (rw miss at none) i d (omega arith)
    ]

pub All-one : {A : Type 0} (P : A → Type 0) (xs : List A) (x : A) → All P xs → P x → All P (xs ++ x ∷ [])
All-one P xs x all one = All-append P xs (x ∷ []) all (All-cons P x [] one (λ k d lt. absurd (omega arith)))

pub listed_more : {A : Type 0} (P : A → Type 0) (name : A → List ℕ) (l : Listed A) (w : List ℕ) (x : A) (k : ℕ) → AreListed P name l → list_any (bytes_eq w) l.names ≡ false → P x → name x ≡ w
    → AreListed P name (record { names = l.names ++ w ∷ []; items = l.items ++ x ∷ []; skipped = k })
listed_more P name l w x k h fresh one e =
    let apart = none_named name w l.items (rw h.names at fresh) in
    record {
      names = ap (λ (v : List (List ℕ)). v ++ w ∷ []) h.names ∙ ap (λ (v : List ℕ). map name l.items ++ v ∷ []) (sym e) ∙ sym (map-append name l.items (x ∷ []));
      apart = all_pairs_push (λ a b. name a ≢ name b) l.items x h.apart (λ i d lt q. apart i d lt (sym (q ∙ e)));
      items = All-one P l.items x h.items one;
    }

-- the value of one more item was added
pub mapped_more : {A B : Type 0} (f : A → B) (before rects new : List B) (metal : List A) (i : ℕ) (m : A) (x : B) → new ≡ rects ++ x ∷ [] → rects ≡ before ++ map f (take i metal) → x ≡ f m → m ≡ get_or metal i m → i < length metal
    → new ≡ before ++ map f (take (i + 1) metal)
mapped_more {A} {B} f before rects new metal i m x h r e g lt =
    h
    ∙ ap (λ (v : List B). v ++ x ∷ []) r
    ∙ append_assoc before (map f (take i metal)) (x ∷ [])
    ∙ ap (λ (v : List B). before ++ v) (ap (λ (v : B). map f (take i metal) ++ v ∷ []) (e ∙ ap f g) ∙ sym (map-append f (take i metal) (get_or metal i m ∷ [])) ∙ ap (map f) (sym (take_more metal i m lt)))

-- a net without connections
pub net_without_pins : (total : ℕ) (name : List ℕ) (pins : List (List ℕ × List ℕ)) (wiring : List (ℕ × ℕ)) (close : ℕ) → pins ≡ [] → All (IsRange total) wiring → IsNetOf total (record { name = name; pins = pins; wiring = wiring; close = close })
net_without_pins total name pins wiring close none ranges = record {
  pins = rw none (λ k d lt. absurd (omega arith));
  pin_count = rw none (lit< tt);
  wiring = ranges;
}

-- no items yet
pub listed_none : {A : Type 0} (P : A → Type 0) (name : A → List ℕ) (l : Listed A) → l.names ≡ [] → l.items ≡ [] → AreListed P name l
listed_none P name l n e = record {
  names = n ∙ sym (ap (map name) e);
  apart = rw e (λ i j d lt within. absurd (omega arith));
  items = rw e (λ k d lt. absurd (omega arith));
}
