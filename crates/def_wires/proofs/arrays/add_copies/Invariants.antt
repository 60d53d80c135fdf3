use Rattle.std.proofs.Common.{◌≡◌, ◌++◌, ◌-◌, unsigned_abs}
use Rattle.std.specs.List.{range_with_len, flat_map}
use Rattle.def_wires.specs.Paths.{copies_of_row, copies_of}
use Rattle.def_wires.proofs.arrays.add_copies.Given as goal

abbrev pub invariant-loop-row : goal.invariant-loop-row
invariant-loop-row l = l.steps ++ flat_map (copies_of_row l.array l.spot l.via l.orient) (range_with_len l.row (unsigned_abs l.array.rows - l.row)) ≡ l.fn.steps ++ copies_of l.array l.spot l.via l.orient
