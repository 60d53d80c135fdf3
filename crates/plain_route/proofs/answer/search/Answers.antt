use Rattle.std.proofs.Common.{ℕ, List, Contains, get_or, sym, subst, ◌∙◌}
use Rattle.std.proofs.lemmas.List.{get_or_default}
use Rattle.std.proofs.lemmas.List.Elements.{Contains-get_or}
use Rattle.rt_base.specs.declared.walk.Entry.{Entry}
use Rattle.least_walk.specs.declared.graph.Stop.{Stop}
use Rattle.track_graph.specs.declared.design.Design.{Design}
use Rattle.track_graph.specs.declared.history.NetState.{NetState}
use Rattle.track_graph.specs.NetWalks.{IsNetEntry}
use Rattle.track_graph.specs.Searches.{Reading, IsStart, IsFinish}
use Rattle.plain_route.specs.Stocks.{stock_reading}
use Rattle.plain_route.specs.Stops.{AreEntries, AreStops}
use Rattle.plain_route.proofs.LegalLemmas.{least_from_route, none_from_routes, none_without, is_graph, stops_listed}
use Rattle.plain_route.proofs.AnswerLemmas.{then_some, then_none, then_ok}
use Rattle.plain_route.proofs.BoundLemmas.{stops_end}
use Rattle.plain_route.proofs.VertexLemmas.{listed_near}
use Rattle.plain_route.proofs.answer.search.Goals as goal

pub returns-then-is_empty-clause-none : goal.returns-then-is_empty-clause-none
returns-then-is_empty-clause-none g c =
    let d : Design = c.args.ground.now.design.now in
    let own : NetState = c.args.ground.now.own.now in
    let n : ℕ = c.args.ground.now.net in
    let r : Reading = stock_reading d (g.K.Stock.rips_of c.args.ground.now.stock.now) n c.args.ground.now.sense.now (g.K.Stock.shapes c.args.ground.now.stock.now) in
    let till : AreStops d n r c.in_ok-finishes.finishes c.in_ok-targets.targets = subst (λ (es : List Entry). AreStops d n r es c.in_ok-targets.targets) c.as_slice.ensures c.in_ok-targets.ensures in
    none_without d n r own c.in_ok-finishes.finishes c.in_ok-targets.targets c.in_ok-finishes.ensures till (c.is_empty.ensures.0 c.if-is_empty.true)

pub stops-requires-2-clause-entries : goal.stops-requires-2-clause-entries
stops-requires-2-clause-entries g c e h = c.in_ok-starts.ensures.fit e (subst (λ (es : List Entry). Contains es e) c.as_slice-2.ensures h)

pub bounds_to-requires-clause-near : goal.bounds_to-requires-clause-near
bounds_to-requires-clause-near g c k x lt =
    let d = c.args.ground.now.design.now in
    let till = c.in_ok-targets.ensures in
    let fit : (e : Entry) → Contains c.as_slice.result.now e → IsNetEntry d c.args.ground.now.net e = λ e h. c.in_ok-finishes.ensures.fit e (subst (λ (es : List Entry). Contains es e) c.as_slice.ensures h) in
    let t : Stop = get_or c.as_slice-3.result.now k x in
    let in_targets : Contains c.in_ok-targets.targets t = subst (λ (ts : List Stop). Contains ts t) c.as_slice-3.ensures (k, lt, get_or_default c.as_slice-3.result.now k t x lt) in
    listed_near d t.entry.vertex (stops_listed d c.args.ground.now.net (stock_reading d (g.K.Stock.rips_of c.args.ground.now.stock.now) c.args.ground.now.net c.args.ground.now.sense.now (g.K.Stock.shapes c.args.ground.now.stock.now)) c.as_slice.result.now c.in_ok-targets.targets c.requires.design fit till t in_targets)

pub least_walk-requires-clause-whole : goal.least_walk-requires-clause-whole
least_walk-requires-clause-whole g c =
    let bounds = c.in_ok-bounds_to.field-0 in
    (c.requires, λ k x lt. (c.in_ok-bounds_to.ensures.fair (get_or bounds k x) (Contains-get_or bounds k x lt)).small)

pub least_walk-requires-clause-graph : goal.least_walk-requires-clause-graph
least_walk-requires-clause-graph g c =
    let d = c.args.ground.now.design.now in
    is_graph d c.args.ground.now.net (stock_reading d (g.K.Stock.rips_of c.args.ground.now.stock.now) c.args.ground.now.net c.args.ground.now.sense.now (g.K.Stock.shapes c.args.ground.now.stock.now)) c.in_ok-bounds_to.field-0 c.requires.design c.in_ok-bounds_to.ensures.fair

pub least_walk-requires-clause-sources : goal.least_walk-requires-clause-sources
least_walk-requires-clause-sources g c s h =
    let d = c.args.ground.now.design.now in
    let fit : (e : Entry) → Contains c.as_slice-2.result.now e → IsNetEntry d c.args.ground.now.net e = λ e x. c.in_ok-starts.ensures.fit e (subst (λ (es : List Entry). Contains es e) c.as_slice-2.ensures x) in
    stops_listed d c.args.ground.now.net (stock_reading d (g.K.Stock.rips_of c.args.ground.now.stock.now) c.args.ground.now.net c.args.ground.now.sense.now (g.K.Stock.shapes c.args.ground.now.stock.now)) c.as_slice-2.result.now c.in_ok-sources.sources c.requires.design fit c.in_ok-sources.ensures s (subst (λ (ts : List Stop). Contains ts s) c.as_slice-4.ensures h)

pub least_walk-requires-clause-targets : goal.least_walk-requires-clause-targets
least_walk-requires-clause-targets g c =
    let d = c.args.ground.now.design.now in
    let fit : (e : Entry) → Contains c.as_slice.result.now e → IsNetEntry d c.args.ground.now.net e = λ e x. c.in_ok-finishes.ensures.fit e (subst (λ (es : List Entry). Contains es e) c.as_slice.ensures x) in
    let bounds = c.in_ok-bounds_to.field-0 in
    record {
      within = λ t h. stops_listed d c.args.ground.now.net (stock_reading d (g.K.Stock.rips_of c.args.ground.now.stock.now) c.args.ground.now.net c.args.ground.now.sense.now (g.K.Stock.shapes c.args.ground.now.stock.now)) c.as_slice.result.now c.in_ok-targets.targets c.requires.design fit c.in_ok-targets.ensures t (subst (λ (ts : List Stop). Contains ts t) c.as_slice-5.ensures h);
      bounded = λ t h.
          let its = c.in_ok-bounds_to.ensures.zero t (subst (λ (ts : List Stop). Contains ts t) (c.as_slice-5.ensures ∙ sym c.as_slice-3.ensures) h) in
          stops_end d bounds t its.0 its.1 its.2;
    }

pub returns-clause-least : goal.returns-clause-least
returns-clause-least g c =
    let d : Design = c.args.ground.now.design.now in
    let own : NetState = c.args.ground.now.own.now in
    let n : ℕ = c.args.ground.now.net in
    let r : Reading = stock_reading d (g.K.Stock.rips_of c.args.ground.now.stock.now) n c.args.ground.now.sense.now (g.K.Stock.shapes c.args.ground.now.stock.now) in
    let from : AreEntries d n (IsStart d n own) c.in_ok-starts.starts = c.in_ok-starts.ensures in
    let to : AreEntries d n (IsFinish d n own) c.in_ok-finishes.finishes = c.in_ok-finishes.ensures in
    let at : AreStops d n r c.in_ok-starts.starts c.as_slice-4.result.now = subst (λ (ts : List Stop). AreStops d n r c.in_ok-starts.starts ts) (sym c.as_slice-4.ensures) (subst (λ (es : List Entry). AreStops d n r es c.in_ok-sources.sources) c.as_slice-2.ensures c.in_ok-sources.ensures) in
    let till : AreStops d n r c.in_ok-finishes.finishes c.as_slice-5.result.now = subst (λ (ts : List Stop). AreStops d n r c.in_ok-finishes.finishes ts) (sym c.as_slice-5.ensures) (subst (λ (es : List Entry). AreStops d n r es c.in_ok-targets.targets) c.as_slice.ensures c.in_ok-targets.ensures) in
    then_ok c.least_walk.result
    (λ o. then_some o (least_from_route d n r own c.in_ok-starts.starts c.in_ok-finishes.finishes c.as_slice-4.result.now c.as_slice-5.result.now from to at till))
    c.least_walk.ensures.least

pub returns-clause-none : goal.returns-clause-none
returns-clause-none g c =
    let d : Design = c.args.ground.now.design.now in
    let own : NetState = c.args.ground.now.own.now in
    let n : ℕ = c.args.ground.now.net in
    let r : Reading = stock_reading d (g.K.Stock.rips_of c.args.ground.now.stock.now) n c.args.ground.now.sense.now (g.K.Stock.shapes c.args.ground.now.stock.now) in
    let from : AreEntries d n (IsStart d n own) c.in_ok-starts.starts = c.in_ok-starts.ensures in
    let to : AreEntries d n (IsFinish d n own) c.in_ok-finishes.finishes = c.in_ok-finishes.ensures in
    let at : AreStops d n r c.in_ok-starts.starts c.as_slice-4.result.now = subst (λ (ts : List Stop). AreStops d n r c.in_ok-starts.starts ts) (sym c.as_slice-4.ensures) (subst (λ (es : List Entry). AreStops d n r es c.in_ok-sources.sources) c.as_slice-2.ensures c.in_ok-sources.ensures) in
    let till : AreStops d n r c.in_ok-finishes.finishes c.as_slice-5.result.now = subst (λ (ts : List Stop). AreStops d n r c.in_ok-finishes.finishes ts) (sym c.as_slice-5.ensures) (subst (λ (es : List Entry). AreStops d n r es c.in_ok-targets.targets) c.as_slice.ensures c.in_ok-targets.ensures) in
    then_ok c.least_walk.result
    (λ o. then_none o (none_from_routes d n r own c.in_ok-starts.starts c.in_ok-finishes.finishes c.as_slice-4.result.now c.as_slice-5.result.now from to at till))
    c.least_walk.ensures.none
