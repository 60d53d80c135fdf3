-- Lists whose items are changed one after the other, each in its place.
use Rattle.std.proofs.Common.{◌≡◌, ◌∙◌, ℕ, suc, ◌+◌, ◌<◌, ◌≤◌, List, ◌∷◌, ◌++◌, [], length, get_or, set, take, refl, sym, ap, subst, arith, map}
use Rattle.std.specs.List.{AllZip}
use Rattle.std.proofs.lemmas.List.{length-set, get_or-set_other, take_more, take_more_set, take_all}
use Rattle.std.proofs.lemmas.List.Elements.{AllZip-push}

-- the first i items are changed, and the others aren't
pub record IsChangedTo {X : Type 0} (R : X → X → Type 0) (i : ℕ) (first now : List X) : Type 0 where
  pub long : length now ≡ length first
  pub done : AllZip R (take i first) (take i now)
  pub rest : (j : ℕ) (d : X) → i ≤ j → get_or now j d ≡ get_or first j d

pub changed-none : {X : Type 0} (R : X → X → Type 0) (first : List X) → IsChangedTo R 0 first first
changed-none R first = record { long = refl; done = tt; rest = λ j d from. refl }

-- one more item is changed
pub changed-more : {X : Type 0} (R : X → X → Type 0) (i : ℕ) (first now : List X) (old new : X) → i < length now → old ≡ get_or now i old → R old new → IsChangedTo R i first now → IsChangedTo R (i + 1) first (set now i new)
changed-more R i first now old new less is changes h = record {
  long = length-set now i new ∙ h.long;
  done =
      let there : old ≡ get_or first i old = is ∙ h.rest i old (omega arith) in
      let front : take (i + 1) first ≡ take i first ++ old ∷ [] = take_more first i old (omega (arith, less, h.long)) ∙ ap (λ x. take i first ++ x ∷ []) (sym there) in
      let here : take (i + 1) (set now i new) ≡ take i now ++ new ∷ [] = take_more_set now i new less in
      subst (λ xs. AllZip R xs (take (i + 1) (set now i new))) (sym front)
      (subst (λ ys. AllZip R (take i first ++ old ∷ []) ys) (sym here) (AllZip-push R (take i first) (take i now) old new h.done changes));
  rest = λ j d from. get_or-set_other now i j new d (λ e. absurd (omega (arith, e, from))) ∙ h.rest j d (omega (arith, from));
}

-- all items are changed
pub changed-all : {X : Type 0} (R : X → X → Type 0) (i : ℕ) (first now : List X) → length first ≤ i → IsChangedTo R i first now → AllZip R first now
changed-all R i first now all h =
    subst (λ xs. AllZip R xs now) (take_all i first all)
    (subst (λ ys. AllZip R (take i first) ys) (take_all i now (omega (arith, all, h.long))) h.done)

-- what follows of each pair
pub zip-then : {X : Type 0} (R S : X → X → Type 0) (xs ys : List X) → ((k : ℕ) (d e : X) → k < length xs → R (get_or xs k d) (get_or ys k e) → S (get_or xs k d) (get_or ys k e)) → AllZip R xs ys → AllZip S xs ys
zip-then R S [] [] h all = tt
zip-then R S [] (y ∷ ys) h all = absurd all
zip-then R S (x ∷ xs) [] h all = absurd all
zip-then R S (x ∷ xs) (y ∷ ys) h all = (h 0 x y (omega arith) all.0, zip-then R S xs ys (λ k d e less. h (suc k) d e (omega (arith, less))) all.1)

-- what holds of each item and itself
pub zip-same : {X : Type 0} (R : X → X → Type 0) (xs : List X) → ((x : X) → R x x) → AllZip R xs xs
zip-same R [] h = tt
zip-same R (x ∷ xs) h = (h x, zip-same R xs h)

-- what is the same of each pair
pub zip-map : {X Y : Type 0} (f : X → Y) (R : X → X → Type 0) (xs ys : List X) → ((x y : X) → R x y → f y ≡ f x) → AllZip R xs ys → map f ys ≡ map f xs
zip-map f R [] [] h all = refl
zip-map f R [] (y ∷ ys) h all = absurd all
zip-map f R (x ∷ xs) [] h all = absurd all
zip-map f R (x ∷ xs) (y ∷ ys) h all = ap (λ y. y ∷ map f ys) (h x y all.0) ∙ ap (λ rest. f x ∷ rest) (zip-map f R xs ys h all.1)
