use Rattle.std.proofs.Common.{◌≡◌, ℕ, List, Result, Ok, Err, IfOk, Vec, Global, map, subst, sym}
use Rattle.rt_base.specs.declared.memory.Memory.{Memory}
use Rattle.track_graph.specs.declared.design.Design.{Design}
use Rattle.track_graph.specs.Orders.{IsOrder}
use Rattle.ripup.proofs.RankLemmas.{IsOrder-sorted}
use Rattle.ripup.proofs.net_order.order.Goals as goal

-- the numbers of an order are an order
order_then : (d : Design) (nets : List ℕ) (r : Result (Vec ℕ Global) Memory) → IsOrder d nets → IfOk r (λ v. v.items ≡ nets) → IfOk r (λ v. IsOrder d v.items)
order_then d nets (Ok v) h e = subst (IsOrder d) (sym e) h
order_then d nets (Err x) h e = tt

pub returns : goal.returns
returns c =
    let ordered : IsOrder c.args.design.now (map (λ (rank : ℕ × ℕ). rank.1) c.sort_unstable.new.self.items) =
    IsOrder-sorted c.args.design.now c.in_ok-ranks.ranks.items c.sort_unstable.new.self.items c.in_ok-ranks.ensures c.sort_unstable.ensures.permutation c.sort_unstable.ensures.sorted in
    order_then c.args.design.now (map (λ (rank : ℕ × ℕ). rank.1) c.deref.result.now) c.numbers.result
    (subst (λ (rs : List (ℕ × ℕ)). IsOrder c.args.design.now (map (λ rank. rank.1) rs)) (sym c.deref.ensures.value) ordered)
    c.numbers.ensures
