use Rattle.std.proofs.Common.{◌≡◌, ◌∙◌, ℕ, List, Result, Ok, Err, IfOk, Vec, Global, map, reverse, subst, sym}
use Rattle.std.specs.List.Sorted.{IsPermutation}
use Rattle.rt_base.specs.declared.memory.Memory.{Memory}
use Rattle.track_graph.specs.declared.design.Design.{Design}
use Rattle.ripup.specs.Hulls.{IsLastFirst}
use Rattle.ripup.proofs.RankLemmas.{IsLastFirst-sorted}
use Rattle.ripup.proofs.net_order.last_first.Goals as goal

-- the same numbers are in the same order
last_then : (d : Design) (nets sorted : List ℕ) (r : Result (Vec ℕ Global) Memory) → IsLastFirst d nets sorted → IfOk r (λ v. v.items ≡ sorted) → IfOk r (λ v. IsLastFirst d nets v.items)
last_then d nets sorted (Ok v) h e = subst (IsLastFirst d nets) (sym e) h
last_then d nets sorted (Err x) h e = tt

pub returns : goal.returns
returns c =
    let d : Design = c.args.design.now in
    let sorted : List (ℕ × ℕ) = c.sort_unstable.new.self.items in
    let last : IsLastFirst d c.args.nets.now (map (λ (rank : ℕ × ℕ). rank.1) (reverse sorted)) =
    IsLastFirst-sorted d c.args.nets.now sorted (subst (λ (ranks : List (ℕ × ℕ)). IsPermutation ranks sorted) c.in_ok-ranks.ensures c.sort_unstable.ensures.permutation) c.sort_unstable.ensures.sorted in
    last_then d c.args.nets.now (map (λ (rank : ℕ × ℕ). rank.1) c.deref.result.now) c.numbers.result
    (subst (λ (rs : List (ℕ × ℕ)). IsLastFirst d c.args.nets.now (map (λ rank. rank.1) rs)) (sym (c.deref.ensures.value ∙ c.reverse.ensures.items)) last)
    c.numbers.ensures
