use Rattle.std.proofs.Common.{◌≡◌, ℤ, pos, get_or, List, Any, Contains, to_z, of_z, w64, subst, rules, arith}
use Rattle.std.proofs.lemmas.Int.{to_z-of_z}
use Rattle.std.proofs.lemmas.List.{get_or_default, take_all}
use Rattle.pin_access.specs.Bands.{IsNearBand, IsNearBands}
use Rattle.pin_access.specs.Counts.{Counts}
use Rattle.pin_access.proofs.Banding.{lines_more}
use Rattle.pin_access.proofs.bands.count_on_lines.Goals as goal

pub loop-line-preserved : goal.loop-line-preserved
loop-line-preserved c =
    let i = c.loop-line.line-index in
    let line = get_or c.args.lines.now i (pos 0) in
    let same : to_z w64 (of_z w64 (get_or c.args.lines.now c.loop-line.line-index (pos 0))) ≡ get_or c.args.lines.now c.loop-line.line-index (pos 0) = to_z-of_z w64 _ (search rules) in
    let on : Counts (λ (z : ℤ). Contains c.args.positions.now z × Any (IsNearBand c.args.reach (get_or c.args.lines.now c.loop-line.line-index (pos 0)) z) c.args.bands.now) c.in_ok-count.field-0 = rw same at c.in_ok-count.ensures.count in (
      lines_more c.args.reach c.args.bands.now c.args.lines.now c.args.positions.now i line c.loop-line.count c.in_ok-count.field-0 c.requires.lines c.loop-line-test.true (get_or_default c.args.lines.now i (pos 0) line c.loop-line-test.true) c.loop-line.invariant.0 on,
      omega (arith, c.in_ok-count.ensures.most, c.requires.position_count, c.loop-line.invariant.1),
    )

pub returns-clause-count : goal.returns-clause-count
returns-clause-count c = subst (λ (ls : List ℤ). Counts (IsNearBands c.args.reach c.args.bands.now ls c.args.positions.now) c.loop-line.count) (take_all c.loop-line.line-index c.args.lines.now c.loop-line-test.false) c.loop-line.invariant.0
