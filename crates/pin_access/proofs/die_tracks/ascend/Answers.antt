use Rattle.std.proofs.Common.{ℤ, ◌<ℤ◌, List, AllPairs, Contains, ◌↔◌, sym, subst}
use Rattle.std.proofs.lemmas.List.Filters.{dedup_is}
use Rattle.pin_access.proofs.Ascending.{dedup_ascends, dedup_has}
use Rattle.pin_access.proofs.die_tracks.ascend.Goals as goal

pub returns-clause-ascending : goal.returns-clause-ascending
returns-clause-ascending c =
    let is = dedup_is _ _ _ c.dedup.ensures.filtered in
    subst (λ (zs : List ℤ). AllPairs (λ a b. a <ℤ b) zs) (sym is) (dedup_ascends c.sort_unstable.new.self.items c.sort_unstable.ensures.sorted)

pub returns-clause-numbers : goal.returns-clause-numbers
returns-clause-numbers c z =
    let is = dedup_is _ _ _ c.dedup.ensures.filtered in
    subst (λ (zs : List ℤ). Contains zs z ↔ Contains c.args.numbers.now.items z) (sym is) (dedup_has c.args.numbers.now.items c.sort_unstable.new.self.items z c.sort_unstable.ensures.permutation)
