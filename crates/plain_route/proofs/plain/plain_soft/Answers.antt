use Rattle.std.proofs.Common.{subst}
use Rattle.track_graph.specs.Readings.{soft_reading}
use Rattle.track_graph.specs.Searches.{IsLeast, NoneLegal}
use Rattle.plain_route.specs.declared.sense.Sense.TheVariants.{Soft}
use Rattle.plain_route.proofs.AnswerLemmas.{then_some, then_none, then_ok}
use Rattle.plain_route.proofs.StockLaw.{state-ground, stored-answers}
use Rattle.plain_route.proofs.plain.plain_soft.Goals as goal

pub search-requires : goal.search-requires
search-requires c = state-ground c.args.design.now c.args.state.now c.args.net c.of_net.result.now c.of_net.ensures c.requires.design c.requires.routed c.requires.net

pub returns-clause-least : goal.returns-clause-least
returns-clause-least c =
    let d = c.args.design.now in
    let n = c.args.net in
    let alike = stored-answers d c.args.state.now n c.of_net.result.now Soft c.in_ok-store.store c.requires.design c.in_ok-store.ensures in
    then_ok c.search.result (λ o. then_some o (λ w h. subst (λ own. IsLeast d n own (soft_reading d c.args.state.now n) w) c.of_net.ensures ((alike.least w).0 h))) c.search.ensures.least

pub returns-clause-none : goal.returns-clause-none
returns-clause-none c =
    let d = c.args.design.now in
    let n = c.args.net in
    let alike = stored-answers d c.args.state.now n c.of_net.result.now Soft c.in_ok-store.store c.requires.design c.in_ok-store.ensures in
    then_ok c.search.result (λ o. then_none o (λ h. subst (λ own. NoneLegal d n own (soft_reading d c.args.state.now n)) c.of_net.ensures (alike.none.0 h))) c.search.ensures.none
