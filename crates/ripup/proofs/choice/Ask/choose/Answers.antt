use Rattle.std.proofs.Common.{Option, IfSome, IfNone, subst}
use Rattle.rt_base.specs.declared.walk.Walk.{Walk}
use Rattle.plain_route.specs.Stocks.{stock_reading}
use Rattle.plain_route.specs.declared.sense.Sense.TheVariants.{Hard, Soft as AsSoft}
use Rattle.track_graph.specs.Searches.{IsLeast, NoneLegal}
use Rattle.ripup.proofs.ChoiceLemmas.{least_of, none_of, waiting_of}
use Rattle.ripup.proofs.choice.Ask.choose.Goals as goal

pub returns-in-Some : goal.returns-in-Some
returns-in-Some g c s shows =
    let ask = c.args.self.now in
    let d = ask.design.now in
    let n = ask.net in
    let shapes = g.K.Stock.shapes ask.stock.now in
    let rips = g.K.Stock.rips_of ask.stock.now in
    record {
      waiting = waiting_of d n ask.own.now shapes rips s c.requires.ground.net c.requires.not_stuck c.requires.unjoined shows;
      walk = least_of d n ask.own.now shapes rips s Hard c.in-Some.walk c.requires.ground.design shows
          (subst (λ (o : Option Walk). IfSome o (IsLeast d n ask.own.now (stock_reading d rips n Hard shapes))) c.in-Some.is c.in_ok-walk.ensures.least);
    }

pub returns-in-None : goal.returns-in-None
returns-in-None g c s shows =
    let ask = c.args.self.now in
    let d = ask.design.now in
    let n = ask.net in
    let shapes = g.K.Stock.shapes ask.stock.now in
    let rips = g.K.Stock.rips_of ask.stock.now in
    record {
      waiting = waiting_of d n ask.own.now shapes rips s c.requires.ground.net c.requires.not_stuck c.requires.unjoined shows;
      none = none_of d n ask.own.now shapes rips s Hard c.requires.ground.design shows
          (subst (λ (o : Option Walk). IfNone o (NoneLegal d n ask.own.now (stock_reading d rips n Hard shapes))) c.in_default.is c.in_ok-walk.ensures.none);
      soft_none = none_of d n ask.own.now shapes rips s AsSoft c.requires.ground.design shows
          (subst (λ (o : Option Walk). IfNone o (NoneLegal d n ask.own.now (stock_reading d rips n AsSoft shapes))) c.in-None.is c.in_ok-soft.ensures.none);
    }
