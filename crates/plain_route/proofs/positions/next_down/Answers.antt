use Rattle.std.proofs.Common.{◌≡◌, ◌⊎◌, ℤ, ◌<ℤ◌, ◌++◌, Option, IfSome, Contains, to_z, of_z, w64, ◌∙◌, subst, sym}
use Rattle.std.proofs.lemmas.Int.{to_z-of_z}
use Rattle.plain_route.proofs.PositionLemmas.{greater-next, greater-one, of_either, exact_down}
use Rattle.plain_route.proofs.positions.next_down.Goals as goal

pub returns-clause-next : goal.returns-clause-next
returns-clause-next c =
    let at : to_z w64 (of_z w64 c.args.at) ≡ c.args.at = to_z-of_z w64 _ c.ranges.at in
    λ z h lt none. c.greater.ensures ∙ greater-next c.args.under.now c.args.over.now c.next_below.result c.next_below-2.result c.args.at (rw at at c.next_below.ensures.next) (rw at at c.next_below.ensures.below) (rw at at c.next_below-2.ensures.next) (rw at at c.next_below-2.ensures.below) z h lt none

pub returns-clause-past : goal.returns-clause-past
returns-clause-past c =
    let at : to_z w64 (of_z w64 c.args.at) ≡ c.args.at = to_z-of_z w64 _ c.ranges.at in
    let xs = c.args.under.now in
    let ys = c.args.over.now in
    let either : IfSome c.greater.result (λ z. Contains (xs ++ ys) z × (z <ℤ c.args.at)) = of_either xs ys (λ z. z <ℤ c.args.at) c.greater.result (subst (λ (o : Option ℤ). IfSome o (λ z. (Contains xs z × (z <ℤ c.args.at)) ⊎ (Contains ys z × (z <ℤ c.args.at)))) (sym c.greater.ensures) (greater-one (λ z. Contains xs z × (z <ℤ c.args.at)) (λ z. Contains ys z × (z <ℤ c.args.at)) c.next_below.result c.next_below-2.result (rw at at c.next_below.ensures.below) (rw at at c.next_below-2.ensures.below))) in
    exact_down (xs ++ ys) c.args.at c.greater.result
    (λ z h lt none. c.greater.ensures ∙ greater-next xs ys c.next_below.result c.next_below-2.result c.args.at (rw at at c.next_below.ensures.next) (rw at at c.next_below.ensures.below) (rw at at c.next_below-2.ensures.next) (rw at at c.next_below-2.ensures.below) z h lt none)
    either
