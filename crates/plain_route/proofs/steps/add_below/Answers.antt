use Rattle.std.proofs.Common.{◌≡◌, ◌+◌, ◌-◌, ◌∷◌, [], ◌++◌, ap, ◌∙◌, arith, rules}
use Rattle.std.proofs.lemmas.Result.{on_ok_weaker}
use Rattle.plain_route.proofs.StepLemmas.{below-push}
use Rattle.plain_route.proofs.steps.add_below.Goals as goal

pub returns : goal.returns
returns c =
    let one : c.args.v.level - 1 + 1 ≡ c.args.v.level = first_of (omega arith, search rules, grind arith) in
    on_ok_weaker c.push.result (λ e. below-push c.args.v c.args.number c.args.via.now c.args.layer (c.args.v.level - 1) c.args.edges.now c.push.new.self one (e ∙ ap (λ x. c.args.edges.now ++ x ∷ []) c.by_via.ensures)) c.push.ensures.ok
