use Rattle.std.proofs.Common.{◌≡◌, ◌⊎◌, inl, inr, ℕ, zero, suc, ◌+◌, ◌<◌, ◌≤◌, sym, refl, ap, ◌∙◌, subst, List, [], ◌∷◌, ◌++◌, length, Option, slice_get, slice_index_or, unwrap_or, Contains, arith, ⊎_elim}
use Rattle.std.proofs.lemmas.Bool.{cases_lt, cases_eq}
use Rattle.std.proofs.lemmas.Option.{slice_get-get_or}
use Rattle.std.proofs.Math.ListN.{set, length-set}
use Rattle.interval_label.specs.Known.{row_at, AreEmpty, RowGains}
use Rattle.std.proofs.lemmas.List.Elements.{Contains-append_left, Contains-append_right, Contains-append_cases}
use Rattle.interval_label.proofs.Members.{contains_cons, contains_first, none_in}
use Rattle.interval_label.proofs.Lists.{get_left, get_last, length_more}

row_beyond : {X : Type 0} (rows : List (List X)) (k : ℕ) → length rows ≤ k → row_at rows k ≡ []
row_beyond [] k h = refl
row_beyond (r ∷ rows) zero h = absurd (omega (arith, h))
row_beyond (r ∷ rows) (suc k) h = row_beyond rows k (omega (arith, h))

pub empty_none : {X : Type 0} (rows : List (List X)) → rows ≡ [] → AreEmpty rows 0
empty_none rows e = rw e (record { wide = refl; empty = λ k. refl })

pub empty_more : {X : Type 0} (rows new : List (List X)) (r : List X) (n : ℕ) → AreEmpty rows n → r ≡ [] → new ≡ rows ++ r ∷ [] → AreEmpty new (n + 1)
empty_more rows new r n h e is = rw is (record {
  wide = omega (arith, length_more rows r, h.wide);
  empty = λ k. ⊎_elim
      (λ (l : k < length rows). ap (λ (o : Option (List _)). unwrap_or o []) (get_left rows r k l) ∙ h.empty k)
      (λ (l : length rows ≤ k). ⊎_elim
      (λ (s : k ≡ length rows). ap (λ (o : Option (List _)). unwrap_or o []) (ap (slice_get (rows ++ r ∷ [])) s ∙ get_last rows r) ∙ e)
      (λ (s : k ≡ length rows → ⊥). row_beyond (rows ++ r ∷ []) k (let t : length rows < k = above (length rows) k l s in omega (arith, t, length_more rows r)))
      (cases_eq k (length rows)))
      (cases_lt k (length rows));
})
  where
    above : (m k : ℕ) → m ≤ k → (k ≡ m → ⊥) → m < k
    above m k l s = grind (arith, l, s)

row_set_same : {X : Type 0} (rows : List (List X)) (n : ℕ) (r : List X) → n < length rows → row_at (set rows n r) n ≡ r
row_set_same [] n r h = absurd (omega (arith, h))
row_set_same (q ∷ rows) zero r h = refl
row_set_same (q ∷ rows) (suc n) r h = row_set_same rows n r (omega (arith, h))

row_set_other : {X : Type 0} (rows : List (List X)) (n k : ℕ) (r : List X) → (k ≡ n → ⊥) → row_at (set rows n r) k ≡ row_at rows k
row_set_other [] n k r h = refl
row_set_other (q ∷ rows) zero zero r h = absurd (h refl)
row_set_other (q ∷ rows) zero (suc k) r h = refl
row_set_other (q ∷ rows) (suc n) zero r h = refl
row_set_other (q ∷ rows) (suc n) (suc k) r h = row_set_other rows n k r (λ e. h (ap suc e))

pub gains_set : {X : Type 0} (rows : List (List X)) (n : ℕ) (r : List X) (x : X) → n < length rows → r ≡ row_at rows n ++ x ∷ [] → RowGains rows (set rows n r) n x
gains_set rows n r x h e = record {
  wide = length-set rows n r;
  row = row_set_same rows n r h ∙ e;
  others = λ k o. row_set_other rows n k r o;
}

-- what is read below the length stands there
pub row_read : {X : Type 0} (rows : List (List X)) (n : ℕ) (d : List X) → n < length rows → slice_index_or rows n d ≡ row_at rows n
row_read rows n d h = ap (λ (o : Option (List _)). unwrap_or o []) (sym (slice_get-get_or rows n d h))

pub added : {X : Type 0} (rows now : List (List X)) (n : ℕ) (current next : List X) (x : X) → rows ≡ now → n < length now → current ≡ slice_index_or rows n current → next ≡ current ++ x ∷ [] → RowGains now (set rows n next) n x
added rows now n current next x is within read more =
    let here : n < length rows = subst (λ (r : List (List _)). n < length r) (sym is) within in
    let e : next ≡ row_at rows n ++ x ∷ [] = more ∙ ap (λ (r : List _). r ++ x ∷ []) (read ∙ row_read rows n current here) in
    subst (λ (r : List (List _)). RowGains r (set rows n next) n x) is (gains_set rows n next x here e)

-- what a row had it has, and the new item
pub gained_has : {X : Type 0} (old new : List (List X)) (n : ℕ) (x : X) → RowGains old new n x → Contains (row_at new n) x
gained_has old new n x h = subst (λ (r : List _). Contains r x) (sym h.row) (Contains-append_right (row_at old n) (x ∷ []) x (contains_first x []))

pub gained_keeps : {X : Type 0} (old new : List (List X)) (n : ℕ) (x : X) → RowGains old new n x → (k : ℕ) (y : X) → Contains (row_at old k) y → Contains (row_at new k) y
gained_keeps old new n x h k y c = ⊎_elim
    (λ (e : k ≡ n).
    let here : Contains (row_at old n) y = subst (λ (m : ℕ). Contains (row_at old m) y) e c in
    subst (λ (m : ℕ). Contains (row_at new m) y) (sym e) (subst (λ (r : List _). Contains r y) (sym h.row) (Contains-append_left (row_at old n) (x ∷ []) y here)))
    (λ (o : k ≡ n → ⊥). subst (λ (r : List _). Contains r y) (sym (h.others k o)) c)
    (cases_eq k n)

pub gained_only : {X : Type 0} (old new : List (List X)) (n : ℕ) (x : X) → RowGains old new n x → (k : ℕ) (y : X) → Contains (row_at new k) y → Contains (row_at old k) y ⊎ ((k ≡ n) × (y ≡ x))
gained_only old new n x h k y c = ⊎_elim
    (λ (e : k ≡ n).
    let here : Contains (row_at new n) y = subst (λ (m : ℕ). Contains (row_at new m) y) e c in
    ⊎_elim
    (λ (o : Contains (row_at old n) y). inl (subst (λ (m : ℕ). Contains (row_at old m) y) (sym e) o))
    (λ (o : Contains (x ∷ []) y). ⊎_elim (λ (s : y ≡ x). inr (e, s)) (λ (z : Contains [] y). absurd (none_in y z)) (contains_cons x [] y o))
    (Contains-append_cases (row_at old n) (x ∷ []) y (subst (λ (r : List _). Contains r y) h.row here)))
    (λ (o : k ≡ n → ⊥). inl (subst (λ (r : List _). Contains r y) (h.others k o) c))
    (cases_eq k n)
