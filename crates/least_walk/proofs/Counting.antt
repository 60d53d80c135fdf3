use Rattle.std.proofs.Common.{◌≡◌, ℕ, ◌<◌, ◌≤◌, Bool, true, false, sym, refl, ap, ◌∙◌, List, [], ◌∷◌, Option, Some, None, Contains, arith, slice_get, unwrap_or, ⊎_elim}
use Rattle.rt_base.specs.declared.walk.Vertex.{Vertex}
use Rattle.least_walk.specs.declared.label.Label.{Label}
use Rattle.least_walk.specs.Known.{number_of}
use Rattle.least_walk.specs.Labels.{vertex_at}
use Rattle.least_walk.specs.Search.{IsSettled, AreFiled, is_settled_at, one_more_if_open, open_count}
use Rattle.least_walk.proofs.Keys.{contains_cons}

-- what is settled has a label that is
pub settled_number : (flags : List Bool) (o : Option ℕ) → is_settled_at flags o ≡ true → (n : ℕ) × (o ≡ Some n) × IsSettled flags n
settled_number flags None h = absurd (clash h)
  where
    clash : false ≡ true → ⊥
    clash e = cc
settled_number flags (Some n) h = (n, refl, read (slice_get flags n) h)
  where
    read : (o : Option Bool) → unwrap_or o false ≡ true → o ≡ Some true
    read None e = cc
    read (Some b) e = ap Some e

pub settled_true : (ls : List Label) (flags : List Bool) (known : List (Vertex × ℕ)) (q : List (ℕ × ℕ)) (v : Vertex) (n : ℕ) → AreFiled ls flags known q → IsSettled flags n → vertex_at ls n ≡ v → is_settled_at flags (number_of known v) ≡ true
settled_true ls flags known q v n filed h at =
    ap (λ (o : Option ℕ). is_settled_at flags o) (ap (number_of known) (sym at) ∙ filed.kept n h) ∙ ap (λ (o : Option Bool). unwrap_or o false) h

one_le : (b c : Bool) (m n : ℕ) → (b ≡ true → c ≡ true) → m ≤ n → one_more_if_open c m ≤ one_more_if_open b n
one_le true true m n h l = l
one_le true false m n h l = absurd (clash (h refl))
  where
    clash : false ≡ true → ⊥
    clash e = cc
one_le false true m n h l = omega arith
one_le false false m n h l = omega arith

one_less : (b c : Bool) (m n : ℕ) → (b ≡ true → c ≡ true) → m < n → one_more_if_open c m < one_more_if_open b n
one_less true true m n h l = l
one_less true false m n h l = absurd (clash (h refl))
  where
    clash : false ≡ true → ⊥
    clash e = cc
one_less false true m n h l = omega arith
one_less false false m n h l = omega arith

one_here : (b c : Bool) (m n : ℕ) → b ≡ false → c ≡ true → m ≤ n → one_more_if_open c m < one_more_if_open b n
one_here true c m n f t l = cc
one_here false false m n f t l = cc
one_here false true m n f t l = omega arith

module _ (flags later : List Bool) (known known2 : List (Vertex × ℕ)) (stays : (v : Vertex) → is_settled_at flags (number_of known v) ≡ true → is_settled_at later (number_of known2 v) ≡ true) where
  open_le : (vs : List Vertex) → open_count later known2 vs ≤ open_count flags known vs
  open_le [] = omega arith
  open_le (v ∷ vs) = one_le _ _ _ _ (stays v) (open_le vs)

  -- one vertex more is settled
  pub open_less : (w : Vertex) (vs : List Vertex) → is_settled_at flags (number_of known w) ≡ false → is_settled_at later (number_of known2 w) ≡ true → Contains vs w → open_count later known2 vs < open_count flags known vs
  open_less w [] f t h = absurd (omega (arith, h.1))
  open_less w (v ∷ vs) f t h = ⊎_elim
      (λ (e : w ≡ v). one_here _ _ _ _ (ap (λ (u : Vertex). is_settled_at flags (number_of known u)) (sym e) ∙ f) (ap (λ (u : Vertex). is_settled_at later (number_of known2 u)) (sym e) ∙ t) (open_le vs))
      (λ (c : Contains vs w). one_less _ _ _ _ (stays v) (open_less w vs f t c))
      (contains_cons v vs w h)
