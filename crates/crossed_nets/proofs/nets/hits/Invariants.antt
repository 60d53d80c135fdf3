use Rattle.std.proofs.Common.{◌≡◌, ℕ, take}
use Rattle.std.specs.List.{list_any}
use Rattle.crossed_nets.specs.Hits.{has, is_hit}
use Rattle.crossed_nets.proofs.nets.hits.Given as goal

abbrev pub invariant-loop-shape : goal.invariant-loop-shape
invariant-loop-shape g l =
    (m : ℕ) → has l.nets m ≡ list_any (λ a. list_any (is_hit l.ground.design.now (g.K.Stock.rips_of l.ground.stock.now) l.ground.net m a) (g.K.Stock.shapes l.ground.stock.now)) (take l.shape-index l.shapes)
