use Rattle.std.proofs.Common.{◌≡◌, ◌∙◌, ◌≤◌, ◌↔◌, ◌≤ℤ◌, ℤ, List, length, Contains, sym, subst}
use Rattle.pin_access.proofs.HowMany.{within_length}
use Rattle.pin_access.proofs.Sweeping.{differ_ascending}
use Rattle.pin_access.proofs.die_tracks.copy_in.Goals as goal

pub returns-clause-those : goal.returns-clause-those
returns-clause-those c z =
    let same : c.from_vec.result ≡ c.lines_in-those.result.now = c.from_vec.ensures ∙ c.in_ok-from_slice.ensures.items in
    subst (λ (s : List ℤ). Contains s z ↔ (Contains c.args.numbers.now z × (c.args.range.lo ≤ℤ z) × (z ≤ℤ c.args.range.hi))) (sym same) (c.lines_in-those.ensures.those z)

pub returns-clause-count : goal.returns-clause-count
returns-clause-count c =
    let same : c.from_vec.result ≡ c.lines_in-those.result.now = c.from_vec.ensures ∙ c.in_ok-from_slice.ensures.items in
    subst (λ (s : List ℤ). length s ≤ length c.args.numbers.now) (sym same) (within_length c.lines_in-those.result.now c.args.numbers.now (differ_ascending c.lines_in-those.result.now c.lines_in-those.ensures.ascending) (λ z h. ((c.lines_in-those.ensures.those z).0 h).0))
