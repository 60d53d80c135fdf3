use Rattle.std.proofs.Common.{◌≡◌, ◌∙◌, ℕ, List, None, Some, Option, IfNone, IfSome, ap, subst, sym}
use Rattle.std.proofs.lemmas.Bool.{false≢true}
use Rattle.rt_base.specs.declared.walk.Edge.{Edge}
use Rattle.rt_base.specs.declared.walk.Walk.{Walk}
use Rattle.track_graph.specs.Searches.{Reading}
use Rattle.track_graph.specs.Walks.{end_of}
use Rattle.plain_route.specs.Ground.{IsStopAt}
use Rattle.plain_route.specs.Stocks.{stock_reading}
use Rattle.block_check.specs.Legal.{AreLegalEdges, IsLegalPath}
use Rattle.block_check.proofs.LegalLemmas.{HasLegalParts, legal-from_parts, legal-parts, start-net_entry}
use Rattle.block_check.proofs.cost.parts_cost.Goals as goal

none-at : {X P : Type 0} (o : Option X) → o ≡ None → IfNone o P → P
none-at None e h = h
none-at (Some x) e h = absurd cc

some-at : {X : Type 0} (P : X → Type 0) (o : Option X) (x : X) → o ≡ Some x → IfSome o P → P x
some-at P o x e h = subst (λ (q : _). IfSome q P) e h

pub returns-in_default-clause-none : goal.returns-in_default-clause-none
returns-in_default-clause-none g c legal =
    let d = c.args.ground.now.design.now in
    let n : ℕ = c.args.ground.now.net in
    let r : Reading = stock_reading d (g.K.Stock.rips_of c.args.ground.now.stock.now) n c.args.ground.now.sense.now (g.K.Stock.shapes c.args.ground.now.stock.now) in
    let parts : HasLegalParts d n r c.args.walk.now = legal-parts d n r c.args.ground.now.own.now c.args.walk.now legal in
    none-at c.path_cost.result c.in_default.is c.path_cost.ensures.none
    (subst (λ (es : List Edge). AreLegalEdges d n r c.args.walk.now.start.vertex es) (sym c.as_slice-edges.ensures) parts.edges)

pub returns-then-not-is_same_vertex-clause-none : goal.returns-then-not-is_same_vertex-clause-none
returns-then-not-is_same_vertex-clause-none g c legal =
    let differ : c.in-Some.end ≡ c.args.walk.now.finish.vertex → ⊥ = λ e. false≢true (sym c.if-not-is_same_vertex.true ∙ c.is_same_vertex.ensures.1 e) in
    let ends : c.in-Some.end ≡ end_of c.args.walk.now.start.vertex c.args.walk.now.edges =
    c.in-Some.ensures.some.end ∙ ap (end_of c.args.walk.now.start.vertex) c.as_slice-edges.ensures in
    differ (ends ∙ legal.walk.arrives)

pub entry_cost-requires-clause-entry : goal.entry_cost-requires-clause-entry
entry_cost-requires-clause-entry g c =
    start-net_entry c.args.ground.now.design.now c.args.ground.now.net c.args.ground.now.own.now c.args.walk.now.start c.requires.ground.design c.requires.ground.of_net c.requires.start

pub returns-in_default-2-clause-none : goal.returns-in_default-2-clause-none
returns-in_default-2-clause-none g c legal =
    let d = c.args.ground.now.design.now in
    let n : ℕ = c.args.ground.now.net in
    let r : Reading = stock_reading d (g.K.Stock.rips_of c.args.ground.now.stock.now) n c.args.ground.now.sense.now (g.K.Stock.shapes c.args.ground.now.stock.now) in
    let parts : HasLegalParts d n r c.args.walk.now = legal-parts d n r c.args.ground.now.own.now c.args.walk.now legal in
    none-at c.in_ok-start.field-0 c.in_default-2.is c.in_ok-start.ensures.none parts.start

pub returns-in_default-3-clause-none : goal.returns-in_default-3-clause-none
returns-in_default-3-clause-none g c legal =
    let d = c.args.ground.now.design.now in
    let n : ℕ = c.args.ground.now.net in
    let r : Reading = stock_reading d (g.K.Stock.rips_of c.args.ground.now.stock.now) n c.args.ground.now.sense.now (g.K.Stock.shapes c.args.ground.now.stock.now) in
    let parts : HasLegalParts d n r c.args.walk.now = legal-parts d n r c.args.ground.now.own.now c.args.walk.now legal in
    none-at c.in_ok-finish.field-0 c.in_default-3.is c.in_ok-finish.ensures.none parts.finish

pub returns-clause-some : goal.returns-clause-some
returns-clause-some g c =
    let d = c.args.ground.now.design.now in
    let n : ℕ = c.args.ground.now.net in
    let r : Reading = stock_reading d (g.K.Stock.rips_of c.args.ground.now.stock.now) n c.args.ground.now.sense.now (g.K.Stock.shapes c.args.ground.now.stock.now) in
    let w : Walk = c.args.walk.now in
    let same : c.in-Some.end ≡ w.finish.vertex = c.is_same_vertex.ensures.0 c.if-not-is_same_vertex.false in
    let start : IsStopAt d n r w.start c.in-Some-2.start = some-at (IsStopAt d n r w.start) c.in_ok-start.field-0 c.in-Some-2.start c.in-Some-2.is c.in_ok-start.ensures.some in
    let finish : IsStopAt d n r w.finish c.in-Some-3.finish = some-at (IsStopAt d n r w.finish) c.in_ok-finish.field-0 c.in-Some-3.finish c.in-Some-3.is c.in_ok-finish.ensures.some in
    let path : IsLegalPath d n r w.start.vertex w.edges (c.in-Some.path, c.in-Some.end) =
    subst (λ (es : List Edge). IsLegalPath d n r w.start.vertex es (c.in-Some.path, c.in-Some.end)) c.as_slice-edges.ensures c.in-Some.ensures.some in
    legal-from_parts d n r c.args.ground.now.own.now w c.in-Some-2.start c.in-Some-3.finish (c.in-Some.path, c.in-Some.end) c.requires.start c.requires.finish start finish path same
