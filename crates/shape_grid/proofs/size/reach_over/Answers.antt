use Rattle.std.proofs.Common.{◌≡◌, ◌^◌, ◌-◌, min, arith}
use Rattle.std.proofs.lemmas.Nat.{pow_pos}
use Rattle.shape_grid.proofs.Cells.{covered}
use Rattle.shape_grid.proofs.size.reach_over.Goals as goal

pub returns-clause-covers : goal.returns-clause-covers
returns-clause-covers c = λ cell from to.
    let low = c.saturating_sub-low.result in
    let count : c.min.result ≡ min (c.args.stretch.last - low) (2 ^ c.args.bits - 1) = omega arith in
    let at = covered low c.args.stretch.last cell (2 ^ c.args.bits) (pow_pos c.args.bits) (omega arith) to in
    rw (count, c.wrap.ensures.value) at
