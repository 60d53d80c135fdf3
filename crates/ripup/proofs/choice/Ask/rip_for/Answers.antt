use Rattle.std.proofs.Common.{◌≡◌, ℕ, List, [], filter, not, Option, IfSome, ap, subst}
use Rattle.rt_base.specs.declared.walk.Walk.{Walk}
use Rattle.crossed_nets.proofs.Wires.{crossed-nets_of}
use Rattle.plain_route.proofs.AnswerLemmas.{then_none}
use Rattle.plain_route.specs.Stocks.{stock_reading}
use Rattle.plain_route.specs.declared.sense.Sense.{Sense}
use Rattle.plain_route.specs.declared.sense.Sense.TheVariants.{Hard, Soft as AsSoft, Without}
use Rattle.ripup.specs.Choices.{is_held, IsRipHeld}
use Rattle.track_graph.specs.Searches.{IsLeast}
use Rattle.ripup.proofs.ChoiceLemmas.{held_of, least_of, none_of, waiting_of, widened_of}
use Rattle.ripup.proofs.SearchLemmas.{some-without}
use Rattle.ripup.proofs.choice.Ask.rip_for.Goals as goal

pub returns-then-not-is_empty : goal.returns-then-not-is_empty
returns-then-not-is_empty g c s shows =
    let ask = c.args.self.now in
    let ripped : List ℕ = c.in_ok-ripped.ripped in
    widened_of ask.design.now ask.net ask.own.now (g.K.Stock.shapes ask.stock.now) (g.K.Stock.rips_of ask.stock.now) s (is_held c.args.held.now) c.args.soft ripped c.in_ok-nets.nets
    c.requires.ground.design shows c.requires.none c.requires.soft c.in_ok-ripped.ensures
    (subst (λ (xs : List ℕ). c.in_ok-nets.nets ≡ filter (λ m. not (is_held c.args.held.now m)) xs) c.as_slice.ensures c.in_ok-nets.ensures)
    (λ e. let yes = c.is_empty.ensures.1 e in let no = c.if-not-is_empty.true in cc)

pub unreachable-requires : goal.unreachable-requires
unreachable-requires g c =
    let ask = c.args.self.now in
    let s = c.requires.some.0 in
    let shows = c.requires.some.1 in
    let d = ask.design.now in
    let ripped : List ℕ = c.in_ok-ripped.ripped in
    let shapes = g.K.Stock.shapes ask.stock.now in
    let rips = g.K.Stock.rips_of ask.stock.now in
    some-without d s ask.net c.args.soft ripped c.in_ok-walk.walk
    (least_of d ask.net ask.own.now shapes rips s AsSoft c.args.soft c.requires.ground.design shows c.requires.soft).legal
    (crossed-nets_of d s ask.net c.args.soft shapes rips ripped c.requires.ground.design shows.stands c.in_ok-ripped.ensures)
    (then_none c.in_ok-walk.walk (λ h. none_of d ask.net ask.own.now shapes rips s (Without ripped) c.requires.ground.design shows h) c.in_ok-walk.ensures.none)
    c.in_default.is

-- the nets that a sense has absent
abbrev absent_in : Sense → List ℕ
absent_in Hard = []
absent_in AsSoft = []
absent_in (Without absent) = absent

pub returns : goal.returns
returns g c s shows =
    let ask = c.args.self.now in
    let d = ask.design.now in
    let n = ask.net in
    let w : Walk = c.in-Some.walk in
    let ripped : List ℕ = c.in_ok-ripped.ripped in
    let shapes = g.K.Stock.shapes ask.stock.now in
    let rips = g.K.Stock.rips_of ask.stock.now in
    let same : ripped ≡ c.in-Without.ripped = ap absent_in c.in-Without.is in
    let found : IsLeast d n ask.own.now (stock_reading d rips n (Without ripped) shapes) w =
    subst (λ (o : Option Walk). IfSome o (IsLeast d n ask.own.now (stock_reading d rips n (Without ripped) shapes))) c.in-Some.is c.in_ok-walk.ensures.least in
    subst (λ (nets : List ℕ). IsRipHeld d s (is_held c.args.held.now) n c.args.soft nets w) same
    (held_of d n ask.own.now shapes rips s (is_held c.args.held.now) c.args.soft w ripped c.in_ok-nets.nets c.requires.ground.design
    (waiting_of d n ask.own.now shapes rips s c.requires.ground.net c.requires.not_stuck c.requires.unjoined shows)
    shows c.requires.none c.requires.soft c.in_ok-ripped.ensures
    (subst (λ (xs : List ℕ). c.in_ok-nets.nets ≡ filter (λ m. not (is_held c.args.held.now m)) xs) c.as_slice.ensures c.in_ok-nets.ensures)
    (c.is_empty.ensures.0 c.if-not-is_empty.false)
    found)
