use Rattle.std.proofs.Common.{◌≡◌, ℕ, ◌≤◌, Some, Option, IfSome, subst, arith, leb-true, le-leb}
use Rattle.rt_base.specs.declared.walk.Walk.{Walk}
use Rattle.track_graph.specs.Searches.{Reading, IsLeast, walk_cost}
use Rattle.plain_route.specs.Stocks.{stock_reading}
use Rattle.block_check.specs.Legal.{IsLegalAt}
use Rattle.block_check.proofs.least.is_least.Goals as goal

some-at : {X : Type 0} (P : X → Type 0) (o : Option X) (x : X) → o ≡ Some x → IfSome o P → P x
some-at P o x e h = subst (λ (q : _). IfSome q P) e h

pub returns : goal.returns
returns g c =
    let d = c.args.ground.now.design.now in
    let n : ℕ = c.args.ground.now.net in
    let own = c.args.ground.now.own.now in
    let r : Reading = stock_reading d (g.K.Stock.rips_of c.args.ground.now.stock.now) n c.args.ground.now.sense.now (g.K.Stock.shapes c.args.ground.now.stock.now) in
    let w : Walk = c.args.walk.now in
    let best : Walk = c.in-Some-2.best in
    let given : IsLegalAt d n own r w c.in-Some.cost = some-at (IsLegalAt d n own r w) c.in_ok-cost.field-0 c.in-Some.cost c.in-Some.is c.in_ok-cost.ensures.some in
    let least : IsLeast d n own r best = some-at (IsLeast d n own r) c.in_ok-best.field-0 best c.in-Some-2.is c.in_ok-best.ensures.least in
    let known : IsLegalAt d n own r best c.in-Some-3.least = some-at (IsLegalAt d n own r best) c.in_ok-least.field-0 c.in-Some-3.least c.in-Some-3.is c.in_ok-least.ensures.some in (
      λ yes. record {
        legal = given.legal;
        least = λ v legal.
            let test : c.in-Some.cost ≤ c.in-Some-3.least = leb-true c.in-Some.cost c.in-Some-3.least yes in
            let most : walk_cost d n r best ≤ walk_cost d n r v = least.least v legal in
            omega (arith, given.sum, known.sum);
      },
      λ h.
          let most : walk_cost d n r w ≤ walk_cost d n r best = h.least best least.legal in
          le-leb c.in-Some.cost c.in-Some-3.least (omega (arith, given.sum, known.sum)),
    )
