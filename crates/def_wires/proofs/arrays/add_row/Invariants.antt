use Rattle.std.proofs.Common.{◌≡◌, ◌++◌, ◌-◌, unsigned_abs}
use Rattle.std.specs.List.{range_with_len, flat_map}
use Rattle.def_wires.specs.Paths.{copy_at, copy_point, copies_of_row}
use Rattle.def_wires.proofs.arrays.add_row.Given as goal

abbrev pub invariant-loop-column : goal.invariant-loop-column
invariant-loop-column l = l.steps ++ flat_map (λ i. copy_at l.spot.layer l.via l.orient (copy_point l.spot.point l.array.step l.row i)) (range_with_len l.column (unsigned_abs l.array.columns - l.column)) ≡ l.initial.steps ++ copies_of_row l.array l.spot l.via l.orient l.row
