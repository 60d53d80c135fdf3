use Rattle.std.proofs.Common.{◌≡◌, ℤ, pos, to_z, of_z, w64, get_or, ◌∙◌, sym, rules, arith}
use Rattle.std.proofs.lemmas.Int.{to_z-of_z}
use Rattle.std.proofs.lemmas.List.{get_or_default}
use Rattle.pin_access.proofs.NearLemmas.{near_lines_more}
use Rattle.pin_access.proofs.area.add_lines.Goals as goal

pub loop-line-preserved : goal.loop-line-preserved
loop-line-preserved c =
    let i = c.loop-line.line-index in
    let read : ℤ = get_or c.args.lines.now i (pos 0) in
    let z : ℤ = to_z w64 (of_z w64 read) in
    let same : z ≡ read = to_z-of_z w64 read (search rules) in
    near_lines_more c.args.tech.now c.args.area.now c.args.lines.now c.args.positions.now i z _ c.loop-line.out.items _ (omega arith) (get_or_default c.args.lines.now i z (pos 0) (omega arith) ∙ sym same) c.loop-line.invariant c.in_ok-add_line.ensures
