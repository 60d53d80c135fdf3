-- The law of readings: two readings that say the same of each shape that a walk of a net inside its guide can put down have the same legal walks of the net, at the same costs, and so the same least ones, and none where the other has none.
use Rattle.std.proofs.Common.{◌≡◌, ⊎_elim, ℕ, suc, ◌+◌, ◌*◌, ◌≤◌, List, [], ◌∷◌, Bool, if◌then◌else◌, sym, refl, ap, ◌∙◌, subst, Contains, sum_by, arith}
use Rattle.std.specs.List.{list_any}
use Rattle.std.proofs.lemmas.List.Sums.{sum_by-cons}
use Rattle.std.proofs.lemmas.List.Elements.{Contains-append_left, Contains-append_right}
use Rattle.rt_base.specs.declared.tech.Shape.{Shape}
use Rattle.rt_base.specs.declared.walk.Walk.{Walk}
use Rattle.rt_base.specs.Conflict.{conflict_of}
use Rattle.rt_base.proofs.Lists.{in_cons}
use Rattle.track_graph.specs.declared.design.Design.{Design}
use Rattle.track_graph.specs.declared.history.NetState.{NetState}
use Rattle.track_graph.specs.Metal.{Metal, shapes_of}
use Rattle.track_graph.specs.Readings.{SayTheSame, AreAlike, AnswerAlike}
use Rattle.track_graph.specs.Searches.{Reading, some_conflict, IsWalk, IsInside, IsLegal, IsLeast, NoneLegal, part_cost, walk_cost}
use Rattle.track_graph.specs.Walks.{parts_shapes, walk_parts, walk_shapes_of}

-- what is the same for each item is the same for some item
pub any_same : {X : Type 0} (f g : X → Bool) (xs : List X) → ((x : X) → Contains xs x → f x ≡ g x) → list_any f xs ≡ list_any g xs
any_same f g [] h = refl
any_same f g (x ∷ xs) h =
    let here : f x ≡ g x = h x (0, omega arith, refl) in
    let rest : list_any f xs ≡ list_any g xs = any_same f g xs (λ y c. h y (suc c.0, omega (arith, c.1), c.2)) in
    rw (here, rest) refl

sum_same : {X : Type 0} (f g : X → ℕ) (xs : List X) → ((x : X) → Contains xs x → f x ≡ g x) → sum_by f xs ≡ sum_by g xs
sum_same f g [] h = refl
sum_same f g (x ∷ xs) h =
    let here : f x ≡ g x = h x (0, omega arith, refl) in
    let rest : sum_by f xs ≡ sum_by g xs = sum_same f g xs (λ y c. h y (suc c.0, omega (arith, c.1), c.2)) in
    sum_by-cons f x xs ∙ ap (λ (n : ℕ). n + sum_by f xs) here ∙ ap (λ (n : ℕ). g x + n) rest ∙ sym (sum_by-cons g x xs)

-- the shapes of a part are shapes of the whole
part-shapes : (n : ℕ) (parts : List (ℕ × List Metal)) (part : ℕ × List Metal) (a : Shape) → Contains parts part → Contains (shapes_of n part.1) a → Contains (parts_shapes n parts) a
part-shapes n [] part a c h = absurd (omega (arith, c.1))
part-shapes n (p ∷ ps) part a c h = ⊎_elim
    (λ (e : part ≡ p). Contains-append_left (shapes_of n p.1) (parts_shapes n ps) a (subst (λ (q : ℕ × List Metal). Contains (shapes_of n q.1) a) e h))
    (λ (later : Contains ps part). Contains-append_right (shapes_of n p.1) (parts_shapes n ps) a (part-shapes n ps part a later h))
    (in_cons p ps part c)

-- readings that say the same of the shapes of a walk say the same of the walk
clear_same : (d : Design) (n : ℕ) (own : NetState) (r q : Reading) (w : Walk) → AreAlike d n own r q → IsWalk d n own w → IsInside d n w → some_conflict d.tech (walk_shapes_of d n w) r.forbidding ≡ some_conflict d.tech (walk_shapes_of d n w) q.forbidding
clear_same d n own r q w alike walk inside =
    any_same (λ a. list_any (conflict_of d.tech a) r.forbidding) (λ a. list_any (conflict_of d.tech a) q.forbidding) (walk_shapes_of d n w)
    (λ a c. (alike a (record { walk = w; is_walk = walk; inside = inside; among = c })).forbidden)

cost_same : (d : Design) (n : ℕ) (own : NetState) (r q : Reading) (w : Walk) → AreAlike d n own r q → IsWalk d n own w → IsInside d n w → walk_cost d n r w ≡ walk_cost d n q w
cost_same d n own r q w alike walk inside = sum_same (part_cost d n r) (part_cost d n q) (walk_parts d n w) each
  where
    dear_same : (part : ℕ × List Metal) → Contains (walk_parts d n w) part → some_conflict d.tech (shapes_of n part.1) r.dear ≡ some_conflict d.tech (shapes_of n part.1) q.dear
    dear_same part has =
        any_same (λ a. list_any (conflict_of d.tech a) r.dear) (λ a. list_any (conflict_of d.tech a) q.dear) (shapes_of n part.1)
        (λ a c. (alike a (record { walk = w; is_walk = walk; inside = inside; among = part-shapes n (walk_parts d n w) part a has c })).dear)

    each : (part : ℕ × List Metal) → Contains (walk_parts d n w) part → part_cost d n r part ≡ part_cost d n q part
    each part has = ap (λ (b : Bool). if b then 8 * part.0 else part.0) (dear_same part has)

flipped : (d : Design) (n : ℕ) (own : NetState) (r q : Reading) → AreAlike d n own r q → AreAlike d n own q r
flipped d n own r q alike a can = let same : SayTheSame d.tech r q a = alike a can in record { forbidden = sym same.forbidden; dear = sym same.dear }

legal_along : (d : Design) (n : ℕ) (own : NetState) (r q : Reading) (w : Walk) → AreAlike d n own r q → IsLegal d n own r w → IsLegal d n own q w
legal_along d n own r q w alike h = record { walk = h.walk; inside = h.inside; clear = sym (clear_same d n own r q w alike h.walk h.inside) ∙ h.clear }

least_along : (d : Design) (n : ℕ) (own : NetState) (r q : Reading) (w : Walk) → AreAlike d n own r q → IsLeast d n own r w → IsLeast d n own q w
least_along d n own r q w alike h = record {
  legal = legal_along d n own r q w alike h.legal;
  least = λ v legal.
      let before : IsLegal d n own r v = legal_along d n own q r v (flipped d n own r q alike) legal in
      let a : walk_cost d n r w ≡ walk_cost d n q w = cost_same d n own r q w alike h.legal.walk h.legal.inside in
      let b : walk_cost d n r v ≡ walk_cost d n q v = cost_same d n own r q v alike before.walk before.inside in
      subst (λ (k : ℕ). k ≤ walk_cost d n q v) a (subst (λ (k : ℕ). walk_cost d n r w ≤ k) b (h.least v before));
}

none_along : (d : Design) (n : ℕ) (own : NetState) (r q : Reading) → AreAlike d n own r q → NoneLegal d n own r → NoneLegal d n own q
none_along d n own r q alike h v legal = h v (legal_along d n own q r v (flipped d n own r q alike) legal)

-- the law
pub alike-answers : (d : Design) (n : ℕ) (own : NetState) (r q : Reading) → AreAlike d n own r q → AnswerAlike d n own r q
alike-answers d n own r q alike =
    let back : AreAlike d n own q r = flipped d n own r q alike in
    record {
      legal = λ w. (legal_along d n own r q w alike, legal_along d n own q r w back);
      cost = λ w walk inside. cost_same d n own r q w alike walk inside;
      least = λ w. (least_along d n own r q w alike, least_along d n own q r w back);
      none = (none_along d n own r q alike, none_along d n own q r back);
    }
