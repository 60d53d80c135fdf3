-- One more net.
use Rattle.std.proofs.Common.{◌≡◌, ◌≢◌, ◌++◌, zero, suc, false, ℕ, List, [], ◌∷◌, map, bytes_eq, All, ap, sym, ◌∙◌, arith, inl, inr, refl}
use Rattle.std.specs.List.{list_any}
use Rattle.std.proofs.lemmas.Bool.{cases_Bool, both_ways}
use Rattle.std.proofs.lemmas.List.{map-append}
use Rattle.std.proofs.lemmas.List.Elements.{All-append, All-cons}
use Rattle.std.proofs.lemmas.List.Quantifiers.{all_pairs_push}
use Rattle.rt_words.proofs.Words.{differ}
use Rattle.guide_text.specs.declared.read.Listed.{Listed}
use Rattle.guide_text.specs.IsGuides.{Guide, IsGuide, AreListed}

abbrev name : Guide → List ℕ
name g = g.0

none_named : (w : List ℕ) (xs : List Guide) → list_any (bytes_eq w) (map name xs) ≡ false → All (λ (x : Guide). w ≢ x.0) xs
none_named w [] none i d lt = absurd (omega arith)
none_named w (x ∷ xs) none zero d lt =
    elim (cases_Bool (bytes_eq w x.0)) [
      | inl hit ↦ absurd (both_ways _ none (rw hit refl))
      | inr miss ↦ differ w x.0 miss
    ]
none_named w (x ∷ xs) none (suc i) d lt =
    elim (cases_Bool (bytes_eq w x.0)) [
      | inl hit ↦ absurd (both_ways _ none (rw hit refl))
      | inr miss ↦ none_named w xs (rw miss at none) i d (omega arith)
    ]

pub all_one : {A : Type 0} (P : A → Type 0) (xs : List A) (x : A) → All P xs → P x → All P (xs ++ x ∷ [])
all_one P xs x all one = All-append P xs (x ∷ []) all (All-cons P x [] one (λ k d lt. absurd (omega arith)))

pub listed_more : (l : Listed) (w : List ℕ) (x : Guide) → AreListed l → list_any (bytes_eq w) l.names ≡ false → IsGuide x → x.0 ≡ w
    → AreListed (record { names = l.names ++ w ∷ []; nets = l.nets ++ x ∷ [] })
listed_more l w x h fresh one e =
    let apart = none_named w l.nets (rw h.names at fresh) in
    record {
      nets = record {
        all = all_one IsGuide l.nets x h.nets.all one;
        apart = all_pairs_push (λ (a b : Guide). a.0 ≢ b.0) l.nets x h.nets.apart (λ i d lt q. apart i d lt (sym (q ∙ e)));
      };
      names = ap (λ (v : List (List ℕ)). v ++ w ∷ []) h.names ∙ ap (λ (v : List ℕ). map name l.nets ++ v ∷ []) (sym e) ∙ sym (map-append name l.nets (x ∷ []));
    }
