-- Shapes that conflict with those of a list, part by part, and the nets that a walk crosses.
use Rattle.std.proofs.Common.{◌≡◌, ◌∙◌, ℕ, ◌+◌, List, [], ◌∷◌, ◌++◌, Bool, true, false, cond, ◌&&◌, ◌||◌, ◌==◌, refl, sym, ap}
use Rattle.std.specs.List.{list_any}
use Rattle.std.proofs.lemmas.List.Folds.{list_any-append}
use Rattle.rt_base.specs.Conflict.{conflict_of}
use Rattle.rt_base.specs.declared.tech.Shape.{Shape}
use Rattle.rt_base.specs.declared.tech.Tech.{Tech}
use Rattle.rt_base.specs.declared.walk.Walk.{Walk}
use Rattle.track_graph.specs.declared.design.Design.{Design}
use Rattle.track_graph.specs.declared.history.NetState.{NetState}
use Rattle.track_graph.specs.Histories.{crossed_from}
use Rattle.track_graph.specs.Readings.{may_rip}
use Rattle.track_graph.specs.Searches.{some_conflict}
use Rattle.track_graph.specs.States.{net_shapes, standing_from}
use Rattle.track_graph.specs.Walks.{walk_shapes_of}
use Rattle.crossed_nets.specs.Hits.{has}

-- net k is m and may be ripped for net n
abbrev pub is_rippable_as : Design → ℕ → ℕ → ℕ → NetState → Bool
is_rippable_as d n m k net = (k == m) && may_rip d n k net

pub some-none : (tech : Tech) (mine : List Shape) → some_conflict tech mine [] ≡ false
some-none tech [] = refl
some-none tech (a ∷ mine) = some-none tech mine

or_pairs : (p q r t : Bool) → ((p || q) || (r || t)) ≡ ((p || r) || (q || t))
or_pairs true q r t = refl
or_pairs false true true t = refl
or_pairs false true false t = refl
or_pairs false false true t = refl
or_pairs false false false t = refl

pub some-append : (tech : Tech) (mine xs ys : List Shape) → some_conflict tech mine (xs ++ ys) ≡ (some_conflict tech mine xs || some_conflict tech mine ys)
some-append tech [] xs ys = refl
some-append tech (a ∷ mine) xs ys =
    ap (λ (b : Bool). b || some_conflict tech mine (xs ++ ys)) (list_any-append (conflict_of tech a) xs ys)
    ∙ ap (λ (b : Bool). (list_any (conflict_of tech a) xs || list_any (conflict_of tech a) ys) || b) (some-append tech mine xs ys)
    ∙ or_pairs (list_any (conflict_of tech a) xs) (list_any (conflict_of tech a) ys) (some_conflict tech mine xs) (some_conflict tech mine ys)

has-if : (k m : ℕ) (t : Bool) → has (cond t (k ∷ []) []) m ≡ (t && (k == m))
has-if k m true = or_no (k == m)
  where
    or_no : (b : Bool) → (b || false) ≡ b
    or_no true = refl
    or_no false = refl
has-if k m false = refl

some-if : (tech : Tech) (mine shapes : List Shape) (t : Bool) → some_conflict tech mine (cond t shapes []) ≡ (t && some_conflict tech mine shapes)
some-if tech mine shapes true = refl
some-if tech mine shapes false = some-none tech mine

and_turn : (r c e : Bool) → ((r && c) && e) ≡ ((e && r) && c)
and_turn true true true = refl
and_turn true true false = refl
and_turn true false true = refl
and_turn true false false = refl
and_turn false c true = refl
and_turn false c false = refl

one-net : (tech : Tech) (mine shapes : List Shape) (k m : ℕ) (r : Bool) → has (cond (r && some_conflict tech mine shapes) (k ∷ []) []) m ≡ some_conflict tech mine (cond ((k == m) && r) shapes [])
one-net tech mine shapes k m r = has-if k m (r && some_conflict tech mine shapes) ∙ and_turn r (some_conflict tech mine shapes) (k == m) ∙ sym (some-if tech mine shapes ((k == m) && r))

-- a net is crossed where a shape of it, if it may be ripped, conflicts with the walk
pub crossed-has : (d : Design) (n : ℕ) (w : Walk) (m k : ℕ) (nets : List NetState) → has (crossed_from d n w k nets) m ≡ some_conflict d.tech (walk_shapes_of d n w) (standing_from d (is_rippable_as d n m) k nets)
crossed-has d n w m k [] = sym (some-none d.tech (walk_shapes_of d n w))
crossed-has d n w m k (net ∷ nets) =
    let mine : List Shape = walk_shapes_of d n w in
    let first : List ℕ = cond (may_rip d n k net && some_conflict d.tech mine (net_shapes d k net)) (k ∷ []) [] in
    let here : List Shape = cond (is_rippable_as d n m k net) (net_shapes d k net) [] in
    let later : List Shape = standing_from d (is_rippable_as d n m) (k + 1) nets in
    list_any-append (λ j. j == m) first (crossed_from d n w (k + 1) nets)
    ∙ ap (λ (b : Bool). b || has (crossed_from d n w (k + 1) nets) m) (one-net d.tech mine (net_shapes d k net) k m (may_rip d n k net))
    ∙ ap (λ (b : Bool). some_conflict d.tech mine here || b) (crossed-has d n w m (k + 1) nets)
    ∙ sym (some-append d.tech mine here later)
