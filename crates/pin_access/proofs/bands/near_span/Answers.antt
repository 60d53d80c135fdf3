use Rattle.std.proofs.Common.{◌≡◌, ◌∙◌, ◌-◌, ◌-ℤ◌, ◌+ℤ◌, ℕ, pos, to_z, of_z, w64, ap, arith}
use Rattle.std.proofs.lemmas.Int.{to_z-of_z}
use Rattle.pin_access.specs.Bands.{beyond}
use Rattle.pin_access.proofs.Banding.{larger_is, low_is, high_is}
use Rattle.pin_access.proofs.bands.near_span.Goals as goal

pub returns-then-away-reach : goal.returns-then-away-reach
returns-then-away-reach c z h =
    let line : to_z w64 (of_z w64 c.args.line) ≡ c.args.line = to_z-of_z w64 _ c.ranges.line in
    let away : c.beyond-away.result ≡ beyond c.args.band.now.across c.args.line = rw line at c.beyond-away.ensures in
    omega (arith, away, h, c.if-away-reach.true)

pub returns : goal.returns
returns c z =
    let line : to_z w64 (of_z w64 c.args.line) ≡ c.args.line = to_z-of_z w64 _ c.ranges.line in
    let b = c.args.band.now in
    let away : c.beyond-away.result ≡ beyond c.args.band.now.across c.args.line = rw line at c.beyond-away.ensures in
    let rest : c.args.reach - c.beyond-away.result ≡ c.args.reach - beyond c.args.band.now.across c.args.line = ap (λ (n : ℕ). c.args.reach - n) away in
    larger_is b c.args.reach c.args.line z _ _ c.requires.band (omega (arith, away, c.if-away-reach.false))
    (low_is b.along.lo (c.args.reach - c.beyond-away.result) c.requires.band.along.1 (omega (arith, c.requires.reach)) ∙ ap (λ (n : ℕ). b.along.lo -ℤ pos n) rest)
    (high_is b.along.hi (c.args.reach - c.beyond-away.result) c.requires.band.along.2 (omega (arith, c.requires.reach)) ∙ ap (λ (n : ℕ). b.along.hi +ℤ pos n) rest)
