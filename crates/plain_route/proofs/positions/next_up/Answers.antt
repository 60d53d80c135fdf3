use Rattle.std.proofs.Common.{◌≡◌, ◌⊎◌, ℤ, ◌<ℤ◌, ◌++◌, Option, IfSome, Contains, to_z, of_z, w64, ◌∙◌, subst, sym}
use Rattle.std.proofs.lemmas.Int.{to_z-of_z}
use Rattle.plain_route.proofs.PositionLemmas.{lesser-next, lesser-one, of_either, exact_up}
use Rattle.plain_route.proofs.positions.next_up.Goals as goal

pub returns-clause-next : goal.returns-clause-next
returns-clause-next c =
    let at : to_z w64 (of_z w64 c.args.at) ≡ c.args.at = to_z-of_z w64 _ c.ranges.at in
    λ z h lt none. c.lesser.ensures ∙ lesser-next c.args.under.now c.args.over.now c.next_above.result c.next_above-2.result c.args.at (rw at at c.next_above.ensures.next) (rw at at c.next_above.ensures.above) (rw at at c.next_above-2.ensures.next) (rw at at c.next_above-2.ensures.above) z h lt none

pub returns-clause-past : goal.returns-clause-past
returns-clause-past c =
    let at : to_z w64 (of_z w64 c.args.at) ≡ c.args.at = to_z-of_z w64 _ c.ranges.at in
    let xs = c.args.under.now in
    let ys = c.args.over.now in
    let either : IfSome c.lesser.result (λ z. Contains (xs ++ ys) z × (c.args.at <ℤ z)) = of_either xs ys (λ z. c.args.at <ℤ z) c.lesser.result (subst (λ (o : Option ℤ). IfSome o (λ z. (Contains xs z × (c.args.at <ℤ z)) ⊎ (Contains ys z × (c.args.at <ℤ z)))) (sym c.lesser.ensures) (lesser-one (λ z. Contains xs z × (c.args.at <ℤ z)) (λ z. Contains ys z × (c.args.at <ℤ z)) c.next_above.result c.next_above-2.result (rw at at c.next_above.ensures.above) (rw at at c.next_above-2.ensures.above))) in
    exact_up (xs ++ ys) c.args.at c.lesser.result
    (λ z h lt none. c.lesser.ensures ∙ lesser-next xs ys c.next_above.result c.next_above-2.result c.args.at (rw at at c.next_above.ensures.next) (rw at at c.next_above.ensures.above) (rw at at c.next_above-2.ensures.next) (rw at at c.next_above-2.ensures.above) z h lt none)
    either
