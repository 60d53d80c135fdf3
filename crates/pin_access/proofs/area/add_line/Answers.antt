use Rattle.std.proofs.Common.{◌≡◌, ℤ, pos, to_z, of_z, w64, [], get_or, drop, ◌∙◌, sym, rules, arith}
use Rattle.std.proofs.lemmas.Int.{to_z-of_z}
use Rattle.std.proofs.lemmas.List.{append-nil, drop_all, get_or_default}
use Rattle.pin_access.proofs.NearLemmas.{near_more}
use Rattle.pin_access.proofs.area.add_line.Goals as goal

pub loop-position-preserved : goal.loop-position-preserved
loop-position-preserved c =
    let i = c.loop-position.position-index in
    let read : ℤ = get_or c.args.positions.now i (pos 0) in
    let z : ℤ = to_z w64 (of_z w64 read) in
    let same : z ≡ read = to_z-of_z w64 read (search rules) in
    near_more c.args.tech.now c.args.area.now c.args.positions.now (to_z w64 (of_z w64 c.args.line)) i z _ c.loop-position.out.items _ (omega arith) (get_or_default c.args.positions.now i z (pos 0) (omega arith) ∙ sym same) c.loop-position.invariant c.in_ok-add_position.ensures

pub returns : goal.returns
returns c =
    let line : to_z w64 (of_z w64 c.args.line) ≡ c.args.line = to_z-of_z w64 _ c.ranges.line in
    let none : drop c.loop-position.position-index c.args.positions.now ≡ [] = drop_all _ _ c.loop-position-test.false in
    rw (none, append-nil, line) at c.loop-position.invariant
