use Rattle.std.proofs.Common.{◌↔◌, Any, List, sym, subst}
use Rattle.pin_access.specs.declared.bands.Band.{Band}
use Rattle.pin_access.specs.Bands.{IsNearBand}
use Rattle.pin_access.specs.DieTracks.{IsNearOn}
use Rattle.pin_access.proofs.CountLemmas.{level_counts}
use Rattle.pin_access.proofs.counting.count_on_level.Goals as goal

pub returns-clause-count : goal.returns-clause-count
returns-clause-count c = level_counts c.args.level.now c.args.reach c.args.rects.now c.as_slice.result.now c.as_slice-lines.result.now c.as_slice-positions.result.now c.in_ok-count.count c.as_slice-lines.ensures c.as_slice-positions.ensures
    (λ r line z. subst (λ (bs : List Band). Any (IsNearBand r line z) bs ↔ Any (IsNearOn c.args.level.now r line z) c.args.rects.now) (sym c.as_slice.ensures.value) (c.in_ok-bands.ensures.near r line z))
    c.in_ok-count.ensures.count
