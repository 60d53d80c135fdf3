-- Levels and their layers: the numbers of levels ascend, and no routing layer stands between two neighbouring levels.
use Rattle.std.proofs.Common.{◌≡◌, ◌∙◌, ℕ, zero, suc, ◌+◌, ◌<◌, Bool, true, false, cond, List, [], ◌∷◌, length, Option, Some, None, refl, sym, ap, inl, inr, arith, slice_get}
use Rattle.std.proofs.lemmas.Bool.{cases_lt}
use Rattle.std.proofs.lemmas.Option.{some_pair_parts, slice_get_cases}
use Rattle.rt_base.specs.declared.tech.Layer.{Layer}
use Rattle.rt_base.specs.declared.tech.Tech.{Tech}
use Rattle.track_graph.specs.Levels.{routing_from, levels, layer_no, layer_name_of}

-- ---- lists of layers

-- a level's layer is one of the layers, at the level's number
pub layer_of_level : (n : ℕ) (ls : List Layer) (k i : ℕ) (l : Layer) → slice_get (routing_from n ls) k ≡ Some (i, l) → (j : ℕ) × (i ≡ n + j) × (slice_get ls j ≡ Some l) × (l.routing ≡ true)
layer_of_level n [] k i l h = absurd cc
layer_of_level n (m ∷ ls) k i l h = by_kind m.routing refl k h (layer_of_level (n + 1) ls)
  where
    later : (k : ℕ) → ((k i : ℕ) (l : Layer) → slice_get (routing_from (n + 1) ls) k ≡ Some (i, l) → (j : ℕ) × (i ≡ n + 1 + j) × (slice_get ls j ≡ Some l) × (l.routing ≡ true)) → slice_get (routing_from (n + 1) ls) k ≡ Some (i, l) → (j : ℕ) × (i ≡ n + j) × (slice_get (m ∷ ls) j ≡ Some l) × (l.routing ≡ true)
    later k ih h = let r = ih k i l h in (suc r.0, omega (arith, r.1), r.2, r.3)

    by_kind : (b : Bool) → m.routing ≡ b → (k : ℕ) → slice_get (cond b ((n, m) ∷ routing_from (n + 1) ls) (routing_from (n + 1) ls)) k ≡ Some (i, l) → ((k i : ℕ) (l : Layer) → slice_get (routing_from (n + 1) ls) k ≡ Some (i, l) → (j : ℕ) × (i ≡ n + 1 + j) × (slice_get ls j ≡ Some l) × (l.routing ≡ true)) → (j : ℕ) × (i ≡ n + j) × (slice_get (m ∷ ls) j ≡ Some l) × (l.routing ≡ true)
    by_kind false e k h ih = later k ih h
    by_kind true e zero h ih = let p = some_pair_parts n i m l h in (0, omega (arith, p.0), ap (λ (x : Layer). Some x) p.1, ap (λ (x : Layer). x.routing) (sym p.1) ∙ e)
    by_kind true e (suc k) h ih = later k ih h

first_if : (b : Bool) (x y : ℕ × Layer) (xs ys : List (ℕ × Layer)) → b ≡ true → x ≡ y → slice_get (cond b (x ∷ xs) ys) 0 ≡ Some y
first_if b x y xs ys e same = rw e (ap (λ (z : ℕ × Layer). Some z) same)

-- a routing layer is that of a level
pub level_of_layer : (n : ℕ) (ls : List Layer) (j : ℕ) (l : Layer) → slice_get ls j ≡ Some l → l.routing ≡ true → (k : ℕ) × (slice_get (routing_from n ls) k ≡ Some (n + j, l))
level_of_layer n [] j l h routing = absurd cc
level_of_layer n (m ∷ ls) zero l h routing =
    let same : m ≡ l = cc in
    let kind : m.routing ≡ true = ap (λ (x : Layer). x.routing) same ∙ routing in
    let number : n ≡ n + 0 = omega arith in
    let pair : (n, m) ≡ (n + 0, l) = cc in
    (0, first_if m.routing (n, m) (n + 0, l) (routing_from (n + 1) ls) (routing_from (n + 1) ls) kind pair)
level_of_layer n (m ∷ ls) (suc j) l h routing = by_kind m.routing refl (level_of_layer (n + 1) ls j l h routing)
  where
    number : n + 1 + j ≡ n + suc j
    number = omega arith

    by_kind : (b : Bool) → m.routing ≡ b → (k : ℕ) × (slice_get (routing_from (n + 1) ls) k ≡ Some (n + 1 + j, l)) → (k : ℕ) × (slice_get (cond m.routing ((n, m) ∷ routing_from (n + 1) ls) (routing_from (n + 1) ls)) k ≡ Some (n + suc j, l))
    by_kind false e r = (r.0, rw e (r.1 ∙ ap (λ (x : ℕ). Some (x, l)) number))
    by_kind true e r = (suc r.0, rw e (r.1 ∙ ap (λ (x : ℕ). Some (x, l)) number))

pub numbers_ascend : (n : ℕ) (ls : List Layer) (v w i j : ℕ) (l m : Layer) → v < w → slice_get (routing_from n ls) v ≡ Some (i, l) → slice_get (routing_from n ls) w ≡ Some (j, m) → i < j
numbers_ascend n [] v w i j l m lt hv hw = absurd cc
numbers_ascend n (x ∷ ls) v w i j l m lt hv hw = by_kind x.routing v w lt hv hw (λ v w lt hv hw. numbers_ascend (n + 1) ls v w i j l m lt hv hw)
  where
    by_kind : (b : Bool) (v w : ℕ) → v < w → slice_get (cond b ((n, x) ∷ routing_from (n + 1) ls) (routing_from (n + 1) ls)) v ≡ Some (i, l) → slice_get (cond b ((n, x) ∷ routing_from (n + 1) ls) (routing_from (n + 1) ls)) w ≡ Some (j, m)
        → ((v w : ℕ) → v < w → slice_get (routing_from (n + 1) ls) v ≡ Some (i, l) → slice_get (routing_from (n + 1) ls) w ≡ Some (j, m) → i < j) → i < j
    by_kind false v w lt hv hw ih = ih v w lt hv hw
    by_kind true v zero lt hv hw ih = absurd (omega arith)
    by_kind true zero (suc w) lt hv hw ih =
        let first = (some_pair_parts n i x l hv).0 in
        let later = layer_of_level (n + 1) ls w j m hw in
        omega (arith, first, later.1)
    by_kind true (suc v) (suc w) lt hv hw ih = ih v w (omega arith) hv hw

-- ---- a technology's levels

-- a level with its layer
pub record HasLayer (tech : Tech) (level : ℕ) (l : Layer) : Type 0 where
  pub at : slice_get (levels tech) level ≡ Some (layer_no tech level, l)
  pub name : layer_name_of tech level ≡ l.name
  pub layer : slice_get tech.layers (layer_no tech level) ≡ Some l
  pub routing : l.routing ≡ true

has_layer : (tech : Tech) (level i : ℕ) (l : Layer) → slice_get (levels tech) level ≡ Some (i, l) → HasLayer tech level l
has_layer tech level i l h =
    let number : layer_no tech level ≡ i = rw h refl in
    let r = layer_of_level 0 tech.layers level i l h in
    let place : i ≡ r.0 = omega (arith, r.1) in
    record {
      at = h ∙ ap (λ (x : ℕ). Some (x, l)) (sym number);
      name = rw h refl;
      layer = ap (slice_get tech.layers) (number ∙ place) ∙ r.2;
      routing = r.3;
    }

pub level_layer : (tech : Tech) (level : ℕ) → level < length (levels tech) → (l : Layer) × HasLayer tech level l
level_layer tech level lt = find (slice_get (levels tech) level) refl
  where
    find : (o : Option (ℕ × Layer)) → slice_get (levels tech) level ≡ o → (l : Layer) × HasLayer tech level l
    find None e = elim (slice_get_cases (levels tech) level).1 [
      | inl r ↦ absurd (let s = sym e ∙ r.2 in cc)
      | inr r ↦ absurd (omega (arith, r.0))
    ]
    find (Some x) e = (x.1, has_layer tech level x.0 x.1 e)

pub numbers_of_levels : (tech : Tech) (v w : ℕ) → v < w → w < length (levels tech) → layer_no tech v < layer_no tech w
numbers_of_levels tech v w lt within =
    let a = level_layer tech v (omega arith) in
    let b = level_layer tech w within in
    numbers_ascend 0 tech.layers v w (layer_no tech v) (layer_no tech w) a.0 b.0 lt a.1.at b.1.at

-- between two neighbouring levels there is no routing layer
pub none_between : (tech : Tech) (level i : ℕ) (l : Layer) → level + 1 < length (levels tech) → layer_no tech level < i → i < layer_no tech (level + 1) → slice_get tech.layers i ≡ Some l → l.routing ≡ false
none_between tech level i l within above below here = by_kind l.routing refl
  where
    lower : (x : Layer) × HasLayer tech level x
    lower = level_layer tech level (omega arith)

    upper : (x : Layer) × HasLayer tech (level + 1) x
    upper = level_layer tech (level + 1) within

    by_kind : (b : Bool) → l.routing ≡ b → b ≡ false
    by_kind false e = refl
    by_kind true e =
        let r = level_of_layer 0 tech.layers i l here e in
        let number : 0 + i ≡ i = omega arith in
        let at : slice_get (levels tech) r.0 ≡ Some (i, l) = r.1 ∙ ap (λ (x : ℕ). Some (x, l)) number in
        elim (cases_lt r.0 (level + 1)) [
          | inl low ↦ elim (cases_lt r.0 level) [
            | inl lower' ↦ let less = numbers_ascend 0 tech.layers r.0 level i (layer_no tech level) l lower.0 lower' at lower.1.at in absurd (omega (arith, less))
            | inr same' ↦
                let same : r.0 ≡ level = omega arith in
                let one = some_pair_parts i (layer_no tech level) l lower.0 (sym at ∙ ap (slice_get (levels tech)) same ∙ lower.1.at) in
                absurd (omega (arith, one.0))
          ]
          | inr high ↦ elim (cases_lt (level + 1) r.0) [
            | inl higher ↦ let more = numbers_ascend 0 tech.layers (level + 1) r.0 (layer_no tech (level + 1)) i upper.0 l higher upper.1.at at in absurd (omega (arith, more))
            | inr same' ↦
                let same : r.0 ≡ level + 1 = omega arith in
                let one = some_pair_parts i (layer_no tech (level + 1)) l upper.0 (sym at ∙ ap (slice_get (levels tech)) same ∙ upper.1.at) in
                absurd (omega (arith, one.0))
          ]
        ]
