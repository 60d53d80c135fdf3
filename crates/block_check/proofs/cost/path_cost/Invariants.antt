use Rattle.std.proofs.Common.{◌≡◌, ◌+◌, ◌*◌, ◌^◌, ◌≤◌, drop}
use Rattle.track_graph.specs.Walks.{end_of}
use Rattle.plain_route.specs.Stocks.{stock_reading}
use Rattle.block_check.specs.Legal.{AreLegalEdges, path_cost}
use Rattle.block_check.proofs.cost.path_cost.Given as goal

abbrev pub invariant-loop-e : goal.invariant-loop-e
invariant-loop-e g l =
    let d = l.ground.design.now in
    let n = l.ground.net in
    let r = stock_reading d (g.K.Stock.rips_of l.ground.stock.now) n l.ground.sense.now (g.K.Stock.shapes l.ground.stock.now) in
    record {
      back : AreLegalEdges d n r l.at (drop l.e-index l.edges) → AreLegalEdges d n r l.initial.at l.edges;
      on : AreLegalEdges d n r l.initial.at l.edges → AreLegalEdges d n r l.at (drop l.e-index l.edges);
      cost : l.cost + path_cost d n r l.at (drop l.e-index l.edges) ≡ path_cost d n r l.initial.at l.edges;
      end : end_of l.at (drop l.e-index l.edges) ≡ end_of l.initial.at l.edges;
      most : l.cost ≤ l.e-index * 2 ^ 64;
    }
