use Rattle.std.proofs.Common.{◌≡◌, ◌+◌, ◌++◌, Contains, ◌⊎◌, ◌↔◌}
use Rattle.track_graph.specs.Levels.{lines_of, lines_below}
use Rattle.pin_access.specs.EntryOrder.{system_of}
use Rattle.pin_access.specs.Nearby.{near_on_lines, across_of, along_of, IsNear}
use Rattle.pin_access.proofs.NearLemmas.{ArePart, gathered_exactly, joined_exactly}
use Rattle.pin_access.proofs.area.add_area.Goals as goal

pub returns : goal.returns
returns c = λ v.
    let g = system_of c.args.tech.now c.args.tracks.now c.args.die in
    let t = c.args.tech.now in
    let a = c.args.area.now in
    let lines = c.lines_in-lines.result.now in
    let below = c.lines_in-below.result.now in
    let above = c.lines_in-above.result.now in
    let is_lines : ArePart lines (lines_of c.args.tracks.now a.level) (across_of t a c.args.die) = rw (c.level_lines.ensures, c.across.ensures.range) at c.lines_in-lines.ensures.those in
    let is_below : ArePart below (lines_below c.args.tracks.now a.level) (along_of t a c.args.die) = rw (c.lines_under.ensures, c.along-positions.ensures) at c.lines_in-below.ensures.those in
    let is_above : ArePart above (lines_of c.args.tracks.now (a.level + 1)) (along_of t a c.args.die) = rw (c.level_lines-2.ensures, c.along-positions.ensures) at c.lines_in-above.ensures.those in
    let exact : (Contains (near_on_lines t a lines below) v ⊎ Contains (near_on_lines t a lines above) v) ↔ IsNear g a.level a.reach a.rect v = gathered_exactly g a lines below above v c.requires.level (c.across.ensures.wide, c.across.ensures.tall) is_lines is_below is_above in
    let new : c.add_lines-2.new.out.items ≡ (c.args.out.now.items ++ near_on_lines t a lines below) ++ near_on_lines t a lines above = rw c.in_ok-add_lines.ensures at c.in_ok-add_lines-2.ensures in
    joined_exactly (IsNear g a.level a.reach a.rect v) c.args.out.now.items (near_on_lines t a lines below) (near_on_lines t a lines above) c.add_lines-2.new.out.items v new exact
