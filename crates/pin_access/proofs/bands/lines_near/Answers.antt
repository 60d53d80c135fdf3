use Rattle.std.proofs.Common.{◌≡◌, ◌∙◌, ◌-ℤ◌, ◌+ℤ◌, pos, get_or, to_z, of_z, w64, subst, ap, arith, rules}
use Rattle.std.specs.Int.{int_min, int_max}
use Rattle.std.proofs.lemmas.Int.{to_z-of_z}
use Rattle.std.proofs.lemmas.List.{get_or_default}
use Rattle.pin_access.specs.declared.bands.Band.{Band}
use Rattle.pin_access.specs.Bands.{beyond, IsBand}
use Rattle.pin_access.proofs.Banding.{high_fits, hull_more, reached_between, low_is, high_is}
use Rattle.pin_access.proofs.HowMany.{within_length}
use Rattle.pin_access.proofs.Sweeping.{differ_ascending}
use Rattle.pin_access.proofs.bands.lines_near.Goals as goal

abbrev no_band : Band
no_band = record { across = record { lo = pos 0; hi = pos 0 }; along = record { lo = pos 0; hi = pos 0 } }

pub overflow_add-band : goal.overflow_add-band
overflow_add-band c =
    let is : IsBand (get_or c.args.bands.now c.loop-band.band-index no_band) = c.requires.bands c.loop-band.band-index no_band c.loop-band-test.true in
    high_fits (get_or c.args.bands.now c.loop-band.band-index no_band).across.hi c.args.reach is.across.2 c.requires.reach

pub loop-band-preserved : goal.loop-band-preserved
loop-band-preserved c =
    let i = c.loop-band.band-index in
    let b = get_or c.args.bands.now i no_band in
    let is : IsBand (get_or c.args.bands.now c.loop-band.band-index no_band) = c.requires.bands c.loop-band.band-index no_band c.loop-band-test.true in
    let hull_lo : to_z w64 (of_z w64 c.loop-band.hull.lo) ≡ c.loop-band.hull.lo = to_z-of_z w64 _ (search rules) in
    let hull_hi : to_z w64 (of_z w64 c.loop-band.hull.hi) ≡ c.loop-band.hull.hi = to_z-of_z w64 _ (search rules) in
    let least : to_z w64 (of_z w64 c.min.result) ≡ c.min.result = to_z-of_z w64 _ (search rules) in
    let most : to_z w64 (of_z w64 c.max.result) ≡ c.max.result = to_z-of_z w64 _ (search rules) in
    let low : to_z w64 (of_z w64 c.min.result) ≡ int_min c.loop-band.hull.lo ((get_or c.args.bands.now c.loop-band.band-index no_band).across.lo -ℤ pos c.args.reach) = least ∙ rw (hull_lo, low_is b.across.lo c.args.reach is.across.1 c.requires.reach) at c.min.ensures.value in
    let high : to_z w64 (of_z w64 c.max.result) ≡ int_max c.loop-band.hull.hi ((get_or c.args.bands.now c.loop-band.band-index no_band).across.hi +ℤ pos c.args.reach) = most ∙ rw (hull_hi, high_is b.across.hi c.args.reach is.across.2 c.requires.reach) at c.max.ensures.value in
    hull_more c.args.reach c.args.bands.now i b c.loop-band.hull.lo c.loop-band.hull.hi _ _ c.loop-band-test.true (get_or_default c.args.bands.now i no_band b c.loop-band-test.true) low high c.loop-band.invariant

pub returns-clause-count : goal.returns-clause-count
returns-clause-count c = within_length c.lines_in.result.now c.args.lines.now (differ_ascending c.lines_in.result.now c.lines_in.ensures.ascending) (λ z h. ((c.lines_in.ensures.those z).0 h).0)

pub returns-clause-those : goal.returns-clause-those
returns-clause-those c z h = ((c.lines_in.ensures.those z).0 h).0

pub returns-clause-near : goal.returns-clause-near
returns-clause-near c z has (k, b, lt, at, h) =
    let reach = c.args.reach in
    let ends = c.loop-band.invariant k b (omega (arith, c.loop-band-test.false, lt)) in
    let band : IsBand b = subst IsBand at (c.requires.bands k b lt) in
    let between = reached_between (get_or c.args.bands.now k b) reach z c.loop-band.hull.lo c.loop-band.hull.hi (c.requires.bands k b lt) (omega (arith, ap (λ (x : Band). beyond x.across z) at, h)) ends.0 ends.1 in
    (c.lines_in.ensures.those z).1 (has, between.0, between.1)
