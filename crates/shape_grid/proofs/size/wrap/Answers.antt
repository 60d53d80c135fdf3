use Rattle.std.proofs.Common.{◌≡◌, ◌*◌, ◌%◌, ◌^◌, arith}
use Rattle.std.proofs.lemmas.Nat.{and_mask, one_shl}
use Rattle.shape_grid.proofs.size.wrap.Goals as goal

pub returns-clause-value : goal.returns-clause-value
returns-clause-value c =
    let side : (1 * 2 ^ c.args.bits) % 2 ^ 64 ≡ 2 ^ c.args.bits = one_shl c.args.bits 64 (omega arith) in
    rw (side) (and_mask c.args.number c.args.bits)
