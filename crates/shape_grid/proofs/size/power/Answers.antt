use Rattle.std.proofs.Common.{◌≡◌, ◌≤◌, ◌*◌, ◌%◌, ◌^◌, arith}
use Rattle.std.proofs.lemmas.Nat.{one_shl}
use Rattle.std.proofs.Math.Nat.{pow-le-pow_right}
use Rattle.shape_grid.proofs.size.power.Goals as goal

pub returns-clause-most : goal.returns-clause-most
returns-clause-most c =
    let side : (1 * 2 ^ c.args.bits) % 2 ^ 64 ≡ 2 ^ c.args.bits = one_shl c.args.bits 64 (omega arith) in
    let most : 2 ^ c.args.bits ≤ 2 ^ 20 = pow-le-pow_right {n = 2} (omega arith) c.requires in
    rw side most
