use Rattle.std.proofs.Common.{◌≡◌, to_z, of_z, w64, rules}
use Rattle.std.proofs.lemmas.Int.{to_z-of_z}
use Rattle.track_graph.proofs.lines.lines_in.Goals as goal

pub returns-clause-those : goal.returns-clause-those
returns-clause-those c =
    let lo : to_z w64 (of_z w64 c.args.range.lo) ≡ c.args.range.lo = to_z-of_z w64 _ (search rules) in
    let hi : to_z w64 (of_z w64 c.args.range.hi) ≡ c.args.range.hi = to_z-of_z w64 _ (search rules) in
    λ z.
    let upper = rw hi at (c.lines_up_to.ensures.those z) in
    let lower = rw lo at (c.lines_from.ensures.those z) in
    (λ h. let a = upper.0 h in let b = lower.0 a.0 in (b.0, b.1, a.1), λ h. upper.1 (lower.1 (h.0, h.1), h.2))
