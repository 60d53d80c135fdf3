use Rattle.std.proofs.Common.{◌≡◌, ◌∙◌, ◌↔◌, ◌⊎◌, ⊎_elim, ℤ, List, ◌++◌, Contains, sym, ap, subst}
use Rattle.std.proofs.lemmas.List.Elements.{Contains-append_left, Contains-append_right, Contains-append_cases}
use Rattle.pin_access.proofs.die_tracks.merged.Goals as goal

pub returns-clause-numbers : goal.returns-clause-numbers
returns-clause-numbers c z =
    let all : c.extend_from_slice.new.self.items ≡ c.args.first.now ++ c.args.second.now = c.in_ok-extend_from_slice.ensures.items ∙ ap (λ (s : List ℤ). s ++ c.args.second.now) c.in_ok-all.ensures.items in
    let up : Contains c.ascend.new.numbers.items z ↔ Contains (c.args.first.now ++ c.args.second.now) z = subst (λ (s : List ℤ). Contains c.ascend.new.numbers.items z ↔ Contains s z) all (c.ascend.ensures.numbers z) in
    subst (λ (s : List ℤ). Contains s z ↔ (Contains c.args.first.now z ⊎ Contains c.args.second.now z)) (sym c.from_vec.ensures) (
      λ h. Contains-append_cases c.args.first.now c.args.second.now z (up.0 h),
      λ h. up.1 (⊎_elim (λ (l : Contains c.args.first.now z). Contains-append_left c.args.first.now c.args.second.now z l) (λ (r : Contains c.args.second.now z). Contains-append_right c.args.first.now c.args.second.now z r) h),
    )
