use Rattle.std.proofs.Common.{◌∷◌, [], ◌++◌, ap, ◌∙◌}
use Rattle.std.proofs.lemmas.Result.{on_ok_weaker}
use Rattle.plain_route.proofs.StepLemmas.{above-push}
use Rattle.plain_route.proofs.steps.add_above.Goals as goal

pub returns : goal.returns
returns c = on_ok_weaker c.push.result (λ e. above-push c.args.v c.args.number c.args.via.now c.args.layer c.args.edges.now c.push.new.self (e ∙ ap (λ x. c.args.edges.now ++ x ∷ []) c.by_via.ensures)) c.push.ensures.ok
