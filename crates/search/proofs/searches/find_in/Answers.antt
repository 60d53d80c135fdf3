use Rattle.std.proofs.Common.{subst}
use Rattle.track_graph.specs.Searches.{IsLeast, NoneLegal}
use Rattle.plain_route.specs.Senses.{reading_of}
use Rattle.plain_route.proofs.AnswerLemmas.{then_some, then_none, then_ok}
use Rattle.plain_route.proofs.StockLaw.{state-ground, stock-answers}
use Rattle.search.specs.Views.{rips_in, view_shapes}
use Rattle.search.proofs.ViewLaw.{view-stands}
use Rattle.search.proofs.searches.find_in.Goals as goal

pub search-requires : goal.search-requires
search-requires c =
    let s = c.requires.state.0 in
    let stands = c.requires.state.1 in
    state-ground c.args.design.now s c.args.net c.of_net.result.now (stands.of_nets c.args.net c.of_net.result.now c.of_net.ensures) c.requires.design stands.of_design c.requires.routable

pub returns-clause-least : goal.returns-clause-least
returns-clause-least c = λ s stands.
    let d = c.args.design.now in
    let n = c.args.net in
    let v = c.args.view.now in
    let own = c.of_net.result.now in
    let alike = stock-answers d s n own c.args.sense.now (view_shapes v) (rips_in v) c.requires.design (view-stands d s v c.requires.design stands c.requires.tiles) in
    then_ok c.search.result (λ o. then_some o (λ w h. subst (λ net. IsLeast d n net (reading_of d s n c.args.sense.now) w) (stands.of_nets n own c.of_net.ensures) ((alike.least w).0 h))) c.search.ensures.least

pub returns-clause-none : goal.returns-clause-none
returns-clause-none c = λ s stands.
    let d = c.args.design.now in
    let n = c.args.net in
    let v = c.args.view.now in
    let own = c.of_net.result.now in
    let alike = stock-answers d s n own c.args.sense.now (view_shapes v) (rips_in v) c.requires.design (view-stands d s v c.requires.design stands c.requires.tiles) in
    then_ok c.search.result (λ o. then_none o (λ h. subst (λ net. NoneLegal d n net (reading_of d s n c.args.sense.now)) (stands.of_nets n own c.of_net.ensures) (alike.none.0 h))) c.search.ensures.none
