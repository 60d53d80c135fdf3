use Rattle.std.proofs.Common.{◌≡◌, ◌||◌, ℕ, take}
use Rattle.std.specs.List.{list_any}
use Rattle.crossed_nets.specs.Hits.{has, is_hit}
use Rattle.crossed_nets.proofs.near.push_owners.Given as goal

abbrev pub invariant-loop-shape : goal.invariant-loop-shape
invariant-loop-shape g l =
    (m : ℕ) → has l.nets m ≡ (has l.fn.nets m || list_any (is_hit l.ground.design.now (g.K.Stock.rips_of l.ground.stock.now) l.ground.net m l.mine) (take l.shape-index l.near))
