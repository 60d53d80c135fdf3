use Rattle.std.proofs.Common.{◌≡◌, ◌∙◌, ◌==◌, ℕ, ◌<◌, List, AllPairs, sym, subst}
use Rattle.std.proofs.lemmas.List.Filters.{dedup_is}
use Rattle.std.proofs.lemmas.List.Kept.{AllPairs-from_increasing, Contains-dedup_nat, Contains-from_dedup}
use Rattle.std.proofs.lemmas.List.Sorted.{list_any-IsPermutation}
use Rattle.std.proofs.lemmas.Map.Keys.{IsStrictlyIncreasing-dedup}
use Rattle.crossed_nets.specs.Hits.{has}
use Rattle.crossed_nets.proofs.Numbers.{has-same}
use Rattle.crossed_nets.proofs.nets.ascend.Goals as goal

pub returns-clause-ascending : goal.returns-clause-ascending
returns-clause-ascending c =
    let is = dedup_is _ _ _ c.dedup.ensures.filtered in
    subst (λ (xs : List ℕ). AllPairs (λ a b. a < b) xs) (sym is) (AllPairs-from_increasing _ (IsStrictlyIncreasing-dedup c.sort_unstable.new.self.items c.sort_unstable.ensures.sorted))

pub returns-clause-numbers : goal.returns-clause-numbers
returns-clause-numbers c m =
    let is = dedup_is _ _ _ c.dedup.ensures.filtered in
    let sorted : List ℕ = c.sort_unstable.new.self.items in
    let once : has c.dedup.new.self.items m ≡ has sorted m = subst (λ (xs : List ℕ). has xs m ≡ has sorted m) (sym is)
    (has-same _ sorted m (Contains-from_dedup _ sorted m, Contains-dedup_nat sorted m)) in
    once ∙ sym (list_any-IsPermutation (λ k. k == m) c.args.numbers.now.items sorted c.sort_unstable.ensures.permutation)
