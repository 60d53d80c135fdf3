use Rattle.std.proofs.Common.{◌≡◌, ℕ, ◌==◌, true, ◌++◌, ◌∷◌, [], List, length, drop, sym, subst, ◌∙◌, arith}
use Rattle.std.proofs.lemmas.Bool.Decides.{nat_tests}
use Rattle.future_cost.specs.declared.bound.Bound.{Bound}
use Rattle.least_walk.specs.declared.graph.Stop.{Stop}
use Rattle.plain_route.specs.Guided.{IsAimedAt}
use Rattle.plain_route.proofs.BoundLemmas.{AreAimedSoFar, aimed_more, aimed_all}
use Rattle.plain_route.proofs.bounds.bounds_to.Goals as goal

pub groups-preserved : goal.groups-preserved
groups-preserved c =
    let stops : List Stop = c.args.stops.now in
    let b : Bound = c.in_ok-bound_to.field-0 in
    let aimed = subst (λ (group : List Stop). IsAimedAt group c.args.via b) c.split_at.ensures.front c.in_ok-bound_to.ensures in
    let more : AreAimedSoFar stops (drop c.group_len.result c.groups.rest.now) c.args.via (c.groups.bounds ++ b ∷ []) = aimed_more stops c.groups.rest.now c.group_len.result c.args.via c.groups.bounds b c.groups.invariant aimed in
    subst (λ (rest : List Stop). AreAimedSoFar stops rest c.args.via c.push.new.self) (sym c.split_at.ensures.back)
    (subst (λ (bounds : List Bound). AreAimedSoFar stops (drop c.group_len.result c.groups.rest.now) c.args.via bounds) (sym c.in_ok-push.ensures.ok) more)

-- what is zero by the test is zero
is_none : (n : ℕ) → (n == 0) ≡ true → n ≡ 0
is_none n e = grind (arith, nat_tests)

pub returns : goal.returns
returns c = aimed_all c.args.stops.now c.groups.rest.now c.args.via c.groups.bounds c.groups.invariant (is_none (length c.groups.rest.now) (sym c.is_empty.ensures ∙ c.groups-test.false))
