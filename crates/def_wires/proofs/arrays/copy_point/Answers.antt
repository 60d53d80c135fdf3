use Rattle.std.proofs.Common.{◌<◌, ◌^◌, ap, arith}
use Rattle.std.proofs.lemmas.Int.{ints}
use Rattle.def_wires.proofs.Copies.{copied_is, copied_within}
use Rattle.def_wires.proofs.arrays.copy_point.Goals as goal

pub returns-clause-value : goal.returns-clause-value
returns-clause-value c =
    let a = c.args.array.now in
    let i : c.args.column < 2 ^ 30 = omega (arith, ints, c.requires.array.columns.0, c.requires.array.columns.1) in
    let j : c.args.row < 2 ^ 30 = omega (arith, ints, c.requires.array.rows.0, c.requires.array.rows.1) in
    rw (copied_is c.args.from.x a.step.x c.args.column c.requires.from.0 c.requires.array.step.0 i, copied_is c.args.from.y a.step.y c.args.row c.requires.from.1 c.requires.array.step.1 j)

pub returns-clause-within : goal.returns-clause-within
returns-clause-within c =
    let a = c.args.array.now in
    let i : c.args.column < 2 ^ 30 = omega (arith, ints, c.requires.array.columns.0, c.requires.array.columns.1) in
    let j : c.args.row < 2 ^ 30 = omega (arith, ints, c.requires.array.rows.0, c.requires.array.rows.1) in
    rw (copied_is c.args.from.x a.step.x c.args.column c.requires.from.0 c.requires.array.step.0 i, copied_is c.args.from.y a.step.y c.args.row c.requires.from.1 c.requires.array.step.1 j) (copied_within c.args.from.x a.step.x c.args.column c.requires.from.0 c.requires.array.step.0 i, copied_within c.args.from.y a.step.y c.args.row c.requires.from.1 c.requires.array.step.1 j)
