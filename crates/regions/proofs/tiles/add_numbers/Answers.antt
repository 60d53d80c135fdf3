use Rattle.std.proofs.Common.{◌≡◌, ◌+◌, ◌≤◌, ℕ, ℤ, pos, ◌+ℤ◌, unsigned_abs, sym, subst, ap, arith, ◌∙◌, ◌<ℤ◌, ◌≤ℤ◌, ◌^◌, to_z, of_z, w64}
use Rattle.std.proofs.lemmas.Int.{ints}
use Rattle.regions.proofs.TileLemmas.{AddsNumbers, numbers_none, numbers_next, numbers_all, kept_small}
use Rattle.regions.proofs.tiles.add_numbers.Goals as goal

pub loop-tile-init : goal.loop-tile-init
loop-tile-init c =
    let run = c.args.run in
    let low : pos 0 ≤ℤ run.lo = c.requires.low in
    let below : run.hi <ℤ pos (2 ^ 32) = omega (arith, ints, c.requires.high) in
    let above : pos 0 ≤ℤ run.hi = omega (arith, ints, c.requires.low, c.requires.full) in
    let low_is : pos c.tile_number-tile.result ≡ run.lo = c.tile_number-tile.ensures ∙ kept_small run.lo low (omega (arith, ints, below, c.requires.full)) in
    let high_is : pos c.tile_number-tile-end.result ≡ (run.hi +ℤ pos 1) =
    c.tile_number-tile-end.ensures ∙ ap (λ (z : ℤ). to_z w64 (of_z w64 (z +ℤ pos 1))) (kept_small run.hi above below) ∙ kept_small (run.hi +ℤ pos 1) (omega (arith, ints, above)) c.requires.high in
    let old = c.args.tiles.now.items in
    let first = c.tile_number-tile.result in
    let end = c.tile_number-tile-end.result in
    let is : first ≡ unsigned_abs c.args.run.lo = ap (λ (z : ℤ). unsigned_abs z) low_is in
    let end_is : end ≡ unsigned_abs (c.args.run.hi +ℤ pos 1) = ap (λ (z : ℤ). unsigned_abs z) high_is in
    let most : first ≤ end = omega (arith, ints, low_is, high_is, c.requires.full) in
    (subst (λ (n : ℕ). AddsNumbers n first old old) is (numbers_none first old c.requires.ascending (λ k d lt. omega (arith, ints, c.requires.below k d lt, low_is))), omega (arith, most, end_is))

pub loop-tile-preserved : goal.loop-tile-preserved
loop-tile-preserved c =
    let run = c.args.run in
    let low : pos 0 ≤ℤ run.lo = c.requires.low in
    let below : run.hi <ℤ pos (2 ^ 32) = omega (arith, ints, c.requires.high) in
    let above : pos 0 ≤ℤ run.hi = omega (arith, ints, c.requires.low, c.requires.full) in
    let low_is : pos c.tile_number-tile.result ≡ run.lo = c.tile_number-tile.ensures ∙ kept_small run.lo low (omega (arith, ints, below, c.requires.full)) in
    let high_is : pos c.tile_number-tile-end.result ≡ (run.hi +ℤ pos 1) =
    c.tile_number-tile-end.ensures ∙ ap (λ (z : ℤ). to_z w64 (of_z w64 (z +ℤ pos 1))) (kept_small run.hi above below) ∙ kept_small (run.hi +ℤ pos 1) (omega (arith, ints, above)) c.requires.high in
    let first = unsigned_abs c.args.run.lo in
    let old = c.args.tiles.now.items in
    let tile = c.loop-tile.tile in
    let end = c.tile_number-tile-end.result in
    let end_is : end ≡ unsigned_abs (c.args.run.hi +ℤ pos 1) = ap (λ (z : ℤ). unsigned_abs z) high_is in
    (subst (AddsNumbers first (tile + 1) old) (sym c.in_ok-push.ensures.items) (numbers_next first tile old c.loop-tile.tiles.items c.loop-tile.invariant.0), omega (arith, end_is, c.loop-tile-test.true))

pub returns-clause-exact : goal.returns-clause-exact
returns-clause-exact c =
    let run = c.args.run in
    let low : pos 0 ≤ℤ run.lo = c.requires.low in
    let below : run.hi <ℤ pos (2 ^ 32) = omega (arith, ints, c.requires.high) in
    let above : pos 0 ≤ℤ run.hi = omega (arith, ints, c.requires.low, c.requires.full) in
    let low_is : pos c.tile_number-tile.result ≡ run.lo = c.tile_number-tile.ensures ∙ kept_small run.lo low (omega (arith, ints, below, c.requires.full)) in
    let high_is : pos c.tile_number-tile-end.result ≡ (run.hi +ℤ pos 1) =
    c.tile_number-tile-end.ensures ∙ ap (λ (z : ℤ). to_z w64 (of_z w64 (z +ℤ pos 1))) (kept_small run.hi above below) ∙ kept_small (run.hi +ℤ pos 1) (omega (arith, ints, above)) c.requires.high in
    numbers_all c.args.run c.tile_number-tile.result c.tile_number-tile-end.result c.loop-tile.tile c.args.tiles.now.items c.loop-tile.tiles.items low_is high_is c.loop-tile-test.false c.loop-tile.invariant.1 c.loop-tile.invariant.0
