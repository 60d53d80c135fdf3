-- The buckets that hold what touches a rectangle.
use Rattle.std.proofs.Common.{◌≡◌, ℕ, ◌+◌, ◌*◌, ◌/◌, ◌%◌, ◌^◌, ◌<◌, ℤ, ◌≤ℤ◌, int_le, List, [], ◌∷◌, ◌++◌, Bool, true, false, ◌&&◌, ◌||◌, cond, take, append_assoc, Contains, length, get_or, refl, ap, sym, ◌∙◌, arith}
use Rattle.std.specs.List.{list_any, flat_map, filter}
use Rattle.std.proofs.lemmas.Bool.{and_parts, eqb-true, false≢true}
use Rattle.std.proofs.lemmas.Int.{ints}
use Rattle.std.proofs.lemmas.List.{get_or_default, take_more, append-nil}
use Rattle.std.proofs.lemmas.List.Concat.{flat_map-append}
use Rattle.std.proofs.lemmas.List.Elements.{filter-append}
use Rattle.std.proofs.lemmas.List.Folds.{Any-from_list_any}
use Rattle.std.proofs.lemmas.Nat.{div-mul-add, mod-mul-add, mod_below, pow_pos}
use Rattle.rt_base.specs.Sides.{Sides}
use Rattle.rt_base.specs.declared.tech.LayerNo.{LayerNo}
use Rattle.rt_base.specs.declared.tech.Shape.{Shape}
use Rattle.shape_grid.specs.declared.size.Size.{Size}
use Rattle.shape_grid.specs.declared.size.Reach.{Reach}
use Rattle.shape_grid.specs.Stores.{is_touching}
use Rattle.shape_grid.specs.Cells.{cell_of, Stands, AreStanding, Covers, Seen, side_of, rise_of, all_of}
use Rattle.shape_grid.proofs.Buckets.{in_bucket, any_of}
use Rattle.shape_grid.proofs.Cells.{cell_of-le}

-- no element passes
pub none_pass : {X : Type 0} (p : X → Bool) (xs : List X) → ((x : X) → Contains xs x → p x ≡ true → ⊥) → list_any p xs ≡ false
none_pass p xs none = by_answer (list_any p xs) refl
  where
    by_answer : (b : Bool) → list_any p xs ≡ b → b ≡ false
    by_answer true e = (let found = Any-from_list_any p xs e in absurd (none found.1 (found.0, found.2, found.3) found.4))
    by_answer false e = refl

le_from_test : (a b : ℤ) → int_le a b ≡ true → a ≤ℤ b
le_from_test a b e = grind (arith, ints)

-- what a touch says
pub record Touch (layer : LayerNo) (r : Sides) (s : Shape) : Type 0 where
  pub same : s.layer.0 ≡ layer.0
  pub left : r.xl ≤ℤ s.rect.xh
  pub right : s.rect.xl ≤ℤ r.xh
  pub low : r.yl ≤ℤ s.rect.yh
  pub high : s.rect.yl ≤ℤ r.yh

pub touch_of : (layer : LayerNo) (r : Sides) (s : Shape) → is_touching layer r s ≡ true → Touch layer r s
touch_of layer r s e =
    let four = and_parts _ _ e in
    let three = and_parts _ _ four.0 in
    let two = and_parts _ _ three.0 in
    let one = and_parts _ _ two.0 in
    record {
      same = eqb-true _ _ one.0;
      left = le_from_test _ _ one.1;
      right = le_from_test _ _ two.1;
      low = le_from_test _ _ three.1;
      high = le_from_test _ _ four.1;
    }

-- the bucket of a shape that touches a rectangle is among those looked at
pub seen : (size : Size) (columns rows : ℕ) (layer : LayerNo) (r : Sides) (a u : Reach) (s : Shape) (b : ℕ) → Covers (side_of r size) columns a → Covers (rise_of r size) rows u → Stands size columns rows s b → is_touching layer r s ≡ true → Seen a u columns rows b
seen size columns rows layer r a u s b across up st touches =
    let t = touch_of layer r s touches in
    let left = cell_of-le r.xl s.rect.xh size.wide t.left in
    let right = cell_of-le s.rect.xl r.xh size.wide t.right in
    let low = cell_of-le r.yl s.rect.yh size.tall t.low in
    let high = cell_of-le s.rect.yl r.yh size.tall t.high in
    let wide = st.suits.wide in
    let tall = st.suits.tall in
    let column = across (cell_of s.rect.xl size.wide) (omega arith) right in
    let row = up (cell_of s.rect.yl size.tall) (omega arith) high in
    record {
      i = column.0;
      j = row.0;
      column = column.1;
      row = row.1;
      place = ap (λ (n : ℕ). n * 2 ^ rows + (u.first + row.0) % 2 ^ rows) column.2 ∙ ap (λ (n : ℕ). (cell_of s.rect.xl size.wide % 2 ^ columns) * 2 ^ rows + n) row.2 ∙ sym st.at;
    }

-- where no bucket that is looked at holds a shape that touches and passes, no bucket does
pub none_near : (size : Size) (columns rows : ℕ) (bs : List (List Shape)) (layer : LayerNo) (r : Sides) (v : Shape → Bool) (a u : Reach) → AreStanding size columns rows bs → Covers (side_of r size) columns a → Covers (rise_of r size) rows u → ((i : ℕ) → i < a.count → (j : ℕ) → j < u.count → list_any (λ s. is_touching layer r s && v s) (get_or bs (((a.first + i) % 2 ^ columns) * 2 ^ rows + (u.first + j) % 2 ^ rows) []) ≡ false) → list_any (λ s. is_touching layer r s && v s) (all_of bs) ≡ false
none_near size columns rows bs layer r v a u st across up none =
    none_pass p (all_of bs) each
  where
    p : Shape → Bool
    p s = is_touching layer r s && v s

    each : (s : Shape) → Contains (all_of bs) s → p s ≡ true → ⊥
    each s c passes =
        let found = in_bucket bs s c in
        let at = seen size columns rows layer r a u s found.0 across up (st.stands found.0 s found.2) (and_parts _ _ passes).0 in
        let no : list_any p (get_or bs found.0 []) ≡ false = ap (λ (b : ℕ). list_any p (get_or bs b [])) (sym at.place) ∙ none at.i at.column at.j at.row in
        false≢true (sym no ∙ any_of p _ s found.2 passes)

-- nothing touches on another layer
pub other_layer : (size : Size) (columns rows : ℕ) (bs : List (List Shape)) (layer : LayerNo) (r : Sides) (v : Shape → Bool) → AreStanding size columns rows bs → (size.layer.0 ≡ layer.0 → ⊥) → list_any (λ s. is_touching layer r s && v s) (all_of bs) ≡ false
other_layer size columns rows bs layer r v st other =
    none_pass (λ s. is_touching layer r s && v s) (all_of bs) (λ s c passes. (let found = in_bucket bs s c in let here = st.stands found.0 s found.2 in other (sym here.suits.layer ∙ (touch_of layer r s (and_parts _ _ passes).0).same)))

-- a filter that no element passes
pub none_kept : {X : Type 0} (p : X → Bool) (xs : List X) → list_any p xs ≡ false → filter p xs ≡ []
none_kept p [] none = refl
none_kept p (x ∷ xs) none = by_answer (p x) refl (none_kept p xs)
  where
    by_answer : (b : Bool) → p x ≡ b → (list_any p xs ≡ false → filter p xs ≡ []) → filter p (x ∷ xs) ≡ []
    by_answer true e rest = absurd (false≢true (sym none ∙ ap (λ (t : Bool). t || list_any p xs) e))
    by_answer false e rest = ap (λ (t : Bool). cond t (x ∷ filter p xs) (filter p xs)) e ∙ rest (ap (λ (t : Bool). t || list_any p xs) (sym e) ∙ none)

-- a bucket that isn't seen has nothing that touches
pub unseen : (size : Size) (columns rows : ℕ) (bs : List (List Shape)) (layer : LayerNo) (r : Sides) (a u : Reach) (b : ℕ) → AreStanding size columns rows bs → Covers (side_of r size) columns a → Covers (rise_of r size) rows u → (Seen a u columns rows b → ⊥) → filter (is_touching layer r) (get_or bs b []) ≡ []
unseen size columns rows bs layer r a u b st across up not_seen =
    none_kept (is_touching layer r) (get_or bs b []) (none_pass (is_touching layer r) (get_or bs b []) (λ s c touches. not_seen (seen size columns rows layer r a u s b across up (st.stands b s c) touches)))

-- and nothing is kept on another layer
pub none_on_other : (size : Size) (columns rows : ℕ) (bs : List (List Shape)) (layer : LayerNo) (r : Sides) → AreStanding size columns rows bs → (size.layer.0 ≡ layer.0 → ⊥) → filter (is_touching layer r) (all_of bs) ≡ []
none_on_other size columns rows bs layer r st other =
    none_kept (is_touching layer r) (all_of bs) (none_pass (is_touching layer r) (all_of bs) (λ s c touches. (let found = in_bucket bs s c in let here = st.stands found.0 s found.2 in other (sym here.suits.layer ∙ (touch_of layer r s touches).same))))

-- the column and the row of a seen bucket
pub column_seen : (a u : Reach) (columns rows b : ℕ) (s : Seen a u columns rows b) → (a.first + s.i) % 2 ^ columns ≡ b / 2 ^ rows
column_seen a u columns rows b s =
    sym (ap (λ (n : ℕ). n / 2 ^ rows) (sym s.place) ∙ div-mul-add ((a.first + s.i) % 2 ^ columns) (2 ^ rows) ((u.first + s.j) % 2 ^ rows) (mod_below (u.first + s.j) (2 ^ rows) (pow_pos rows)))

pub row_seen : (a u : Reach) (columns rows b : ℕ) (s : Seen a u columns rows b) → (u.first + s.j) % 2 ^ rows ≡ b % 2 ^ rows
row_seen a u columns rows b s =
    sym (ap (λ (n : ℕ). n % 2 ^ rows) (sym s.place) ∙ mod-mul-add ((a.first + s.i) % 2 ^ columns) (2 ^ rows) ((u.first + s.j) % 2 ^ rows) (mod_below (u.first + s.j) (2 ^ rows) (pow_pos rows)))

-- one more bucket
pub near_more : {X : Type 0} (p : X → Bool) (bs : List (List X)) (b : ℕ) → b < length bs → filter p (flat_map (λ l. l) (take (b + 1) bs)) ≡ filter p (flat_map (λ l. l) (take b bs)) ++ filter p (get_or bs b [])
near_more p bs b less =
    ap (λ l. filter p (flat_map (λ l. l) l)) (take_more bs b [] less) ∙ ap (filter p) (flat_map-append (λ l. l) (take b bs) (get_or bs b [] ∷ [])) ∙ filter-append p (flat_map (λ l. l) (take b bs)) (get_or bs b [] ++ []) ∙ ap (λ l. filter p (flat_map (λ l. l) (take b bs)) ++ filter p l) (append-nil (get_or bs b []))

-- a bucket of which nothing is kept
pub near_less : {X : Type 0} (p : X → Bool) (bs : List (List X)) (b : ℕ) → b < length bs → filter p (get_or bs b []) ≡ [] → filter p (flat_map (λ l. l) (take (b + 1) bs)) ≡ filter p (flat_map (λ l. l) (take b bs))
near_less p bs b less none = near_more p bs b less ∙ ap (λ l. filter p (flat_map (λ l. l) (take b bs)) ++ l) none ∙ append-nil (filter p (flat_map (λ l. l) (take b bs)))

-- what was found, after one more bucket
pub found_more : {X : Type 0} (p : X → Bool) (bs : List (List X)) (b : ℕ) (bucket first before now : List X) → b < length bs → bucket ≡ get_or bs b bucket → before ≡ first ++ filter p (flat_map (λ l. l) (take b bs)) → now ≡ before ++ filter p bucket → now ≡ first ++ filter p (flat_map (λ l. l) (take (b + 1) bs))
found_more p bs b bucket first before now less is was does =
    let same : get_or bs b [] ≡ bucket = get_or_default bs b [] bucket less ∙ sym is in
    let more : filter p (flat_map (λ l. l) (take (b + 1) bs)) ≡ filter p (flat_map (λ l. l) (take b bs)) ++ filter p bucket = near_more p bs b less ∙ ap (λ l. filter p (flat_map (λ l. l) (take b bs)) ++ filter p l) same in
    does ∙ ap (λ l. l ++ filter p bucket) was ∙ append_assoc first (filter p (flat_map (λ l. l) (take b bs))) (filter p bucket) ∙ ap (λ l. first ++ l) (sym more)

pub found_less : {X : Type 0} (p : X → Bool) (bs : List (List X)) (b : ℕ) (first before now : List X) → b < length bs → filter p (get_or bs b []) ≡ [] → before ≡ first ++ filter p (flat_map (λ l. l) (take b bs)) → now ≡ before → now ≡ first ++ filter p (flat_map (λ l. l) (take (b + 1) bs))
found_less p bs b first before now less none was same = same ∙ was ∙ ap (λ l. first ++ l) (sym (near_less p bs b less none))
