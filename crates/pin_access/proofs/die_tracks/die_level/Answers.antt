use Rattle.std.proofs.Common.{◌≡◌, ◌∙◌, ◌+◌, ◌≤◌, ℤ, List, length, sym, ap, subst, arith}
use Rattle.track_graph.specs.Levels.{is_horizontal, lines_of, lines_below}
use Rattle.pin_access.specs.declared.bands.Band.{Band}
use Rattle.pin_access.specs.Bands.{band_of}
use Rattle.pin_access.specs.EntryOrder.{system_of}
use Rattle.pin_access.proofs.HowMany.{within_length}
use Rattle.pin_access.proofs.DieLemmas.{few_lines, few_lines_below, level_exactly}
use Rattle.pin_access.proofs.NearLemmas.{ArePart}
use Rattle.pin_access.proofs.Sweeping.{differ_ascending}
use Rattle.pin_access.proofs.die_tracks.die_level.Goals as goal

pub returns-clause-level : goal.returns-clause-level
returns-clause-level c =
    let t = c.args.tracks.now in
    let k = c.args.level in
    let lines : length c.level_lines-lines.result.now ≤ 65536 = subst (λ (ls : List ℤ). length ls ≤ 65536) (sym c.level_lines-lines.ensures) (few_lines t k c.requires.few) in
    let under : length c.lines_under.result.now ≤ 65536 = subst (λ (ls : List ℤ). length ls ≤ 65536) (sym c.lines_under.ensures) (few_lines_below t k c.requires.few) in
    let over : length c.level_lines.result.now ≤ 65536 = subst (λ (ls : List ℤ). length ls ≤ 65536) (sym c.level_lines.ensures) (few_lines t (k + 1) c.requires.few) in
    let below = within_length c.lines_in-below.result.now c.lines_under.result.now (differ_ascending c.lines_in-below.result.now c.lines_in-below.ensures.ascending) (λ z h. ((c.lines_in-below.ensures.those z).0 h).0) in
    let above = within_length c.lines_in-above.result.now c.level_lines.result.now (differ_ascending c.lines_in-above.result.now c.lines_in-above.ensures.ascending) (λ z h. ((c.lines_in-above.ensures.those z).0 h).0) in
    record {
      lines = c.in_ok-copy_in.ensures.ascending;
      positions = c.in_ok-merged.ensures.ascending;
      line_count = omega (arith, lines, c.in_ok-copy_in.ensures.count);
      position_count = omega (arith, under, over, below, above, c.in_ok-merged.ensures.count);
      step = c.largest_step.ensures.most;
    }

pub returns-clause-of : goal.returns-clause-of
returns-clause-of c =
    let g = system_of c.args.tech.now c.args.tracks.now c.args.die in
    let k = c.args.level in
    let h = is_horizontal c.args.tech.now k in
    let ranges : c.ranges_of-ranges.result ≡ band_of (is_horizontal c.args.tech.now c.args.level) c.args.die = c.ranges_of-ranges.ensures.value ∙ ap (λ b. band_of b c.args.die) c.is_level_horizontal-horizontal.ensures in
    let lines : ArePart c.in_ok-copy_in.field-0 (lines_of c.args.tracks.now c.args.level) (band_of (is_horizontal c.args.tech.now c.args.level) c.args.die).across = subst (λ (ls : List ℤ). ArePart c.in_ok-copy_in.field-0 ls (band_of h c.args.die).across) c.level_lines-lines.ensures (subst (λ (b : Band). ArePart c.in_ok-copy_in.field-0 c.level_lines-lines.result.now b.across) ranges c.in_ok-copy_in.ensures.those) in
    let below : ArePart c.lines_in-below.result.now (lines_below c.args.tracks.now c.args.level) (band_of (is_horizontal c.args.tech.now c.args.level) c.args.die).along = subst (λ (ls : List ℤ). ArePart c.lines_in-below.result.now ls (band_of h c.args.die).along) c.lines_under.ensures (subst (λ (b : Band). ArePart c.lines_in-below.result.now c.lines_under.result.now b.along) ranges c.lines_in-below.ensures.those) in
    let above : ArePart c.lines_in-above.result.now (lines_of c.args.tracks.now (c.args.level + 1)) (band_of (is_horizontal c.args.tech.now c.args.level) c.args.die).along = subst (λ (ls : List ℤ). ArePart c.lines_in-above.result.now ls (band_of h c.args.die).along) c.level_lines.ensures (subst (λ (b : Band). ArePart c.lines_in-above.result.now c.level_lines.result.now b.along) ranges c.lines_in-above.ensures.those) in
    record {
      layer = c.requires.layer;
      horizontal = c.is_level_horizontal-horizontal.ensures;
      step = c.largest_step.ensures.value;
      exactly = λ v e. level_exactly g k c.in_ok-copy_in.field-0 c.lines_in-below.result.now c.lines_in-above.result.now c.in_ok-merged.field-0 v c.requires.level lines below above c.in_ok-merged.ensures.numbers e;
    }
