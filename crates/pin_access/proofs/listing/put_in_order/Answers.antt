use Rattle.std.proofs.lemmas.List.Filters.{dedup_is}
use Rattle.std.proofs.lemmas.List.Kept.{Contains-dedup, Contains-from_dedup, IsStrictlySortedBy-dedup}
use Rattle.std.proofs.lemmas.List.Sorted.{Contains-permutation, IsPermutation-sym}
use Rattle.pin_access.proofs.OrderLemmas.{vertex_eq, vertex_total, vertex_equiv, vertex_ties, vertex_same, before_from_strict}
use Rattle.pin_access.proofs.listing.put_in_order.Goals as goal

pub returns-clause-ordered : goal.returns-clause-ordered
returns-clause-ordered c = rw (dedup_is _ _ _ c.dedup.ensures.filtered) (before_from_strict _ (IsStrictlySortedBy-dedup vertex_total vertex_ties c.sort_unstable.new.self.items c.sort_unstable.ensures.sorted))

pub returns-clause-same : goal.returns-clause-same
returns-clause-same c =
    let is = dedup_is _ _ _ c.dedup.ensures.filtered in
    let moved = c.sort_unstable.ensures.permutation in
    λ v. (
      λ h. Contains-permutation _ _ v (IsPermutation-sym _ _ moved) (Contains-from_dedup vertex_eq c.sort_unstable.new.self.items v (rw is at h)),
      λ h. rw is (Contains-dedup vertex_equiv vertex_same c.sort_unstable.new.self.items v (Contains-permutation _ _ v moved h)),
    )
