use Rattle.std.proofs.lemmas.Result.{on_ok_weaker}
use Rattle.plain_route.proofs.StepLemmas.{via-both}
use Rattle.plain_route.proofs.steps.add_via.Goals as goal

pub returns : goal.returns
returns c = on_ok_weaker c.add_below.result (λ b. via-both c.args.v c.args.number c.args.via.now c.args.layers c.args.edges.now c.add_above.new.edges c.add_below.new.edges c.in_ok-add_above.ensures b) c.add_below.ensures
