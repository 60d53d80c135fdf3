use Rattle.std.proofs.Common.{◌≡◌, ◌∙◌, ◌+◌, ◌≤◌, ℤ, List, length, take, true, false, sym, ap, subst, arith, Vec, Global}
use Rattle.std.proofs.lemmas.List.{take_all}
use Rattle.def_text.specs.declared.def.TrackRow.{TrackRow}
use Rattle.build.specs.TrackLines.{is_used, line_count}
use Rattle.build.proofs.TrackLemmas.{HasLines, lines_more, lines_skip, count_more, used_count}
use Rattle.build.proofs.level_tracks.said_lines.Goals.{then-is_used+in_ok-add_row, else-is_used}
use Rattle.build.proofs.level_tracks.said_lines.Goals as goal

pub loop-row-preserved : goal.loop-row-preserved
loop-row-preserved c =
    let rows = c.args.rows.now in
    let layer = c.args.layer.now in
    let i = c.loop-row.row-index in
    let row = c.row-item.result in
    let more = count_more rows i row layer c.loop-row-test.true c.row-item.is in
    elim c.if-is_used.branch [
      | then-is_used+in_ok-add_row w ↦
          let used : is_used layer row ≡ true = sym c.is_used.ensures ∙ w.if-is_used.true in
          let items = ap (λ (v : Vec ℤ Global). v.items) w.lines-is in (
            subst (λ (zs : List ℤ). HasLines (take (i + 1) rows) layer zs) (sym items)
                (lines_more rows i row layer c.loop-row.lines.items _ c.loop-row-test.true c.row-item.is used c.loop-row.invariant.0 w.in_ok-add_row.ensures.lines),
            omega (arith, more, used_count layer row used, ap length items, w.in_ok-add_row.ensures.count, c.loop-row.invariant.1),
          )
      | else-is_used w ↦
          let unused : is_used layer row ≡ false = sym c.is_used.ensures ∙ w.if-is_used.false in
          let items = ap (λ (v : Vec ℤ Global). v.items) w.lines-is in (
            subst (λ (zs : List ℤ). HasLines (take (i + 1) rows) layer zs) (sym items)
                (lines_skip rows i row layer c.loop-row.lines.items c.loop-row-test.true c.row-item.is unused c.loop-row.invariant.0),
            omega (arith, more, ap length items, c.loop-row.invariant.1),
          )
    ]

pub returns-clause-lines : goal.returns-clause-lines
returns-clause-lines c =
    subst (λ (rs : List TrackRow). HasLines rs c.args.layer.now c.loop-row.lines.items) (take_all c.loop-row.row-index c.args.rows.now c.loop-row-test.false) c.loop-row.invariant.0

pub returns-clause-count : goal.returns-clause-count
returns-clause-count c =
    subst (λ (rs : List TrackRow). length c.loop-row.lines.items ≤ line_count c.args.layer.now rs) (take_all c.loop-row.row-index c.args.rows.now c.loop-row-test.false) c.loop-row.invariant.1
