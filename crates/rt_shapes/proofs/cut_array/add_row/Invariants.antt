use Rattle.std.proofs.Common.{◌≡◌, ◌++◌, ◌-◌, ◌+◌, ◌^◌, All, map, unsigned_abs}
use Rattle.std.specs.List.{range_with_len}
use Rattle.rt_base.specs.Ranges.{AreSidesWithin}
use Rattle.rt_base.specs.Sides.{Sides}
use Rattle.rt_base.specs.declared.tech.LayerNo.{LayerNo}
use Rattle.rt_shapes.specs.GeneratedVias.{cut_of, row_of}
use Rattle.rt_shapes.proofs.cut_array.add_row.Given as goal

abbrev pub invariant-loop-column : goal.invariant-loop-column
invariant-loop-column l = record {
  same : l.out.items ++ map (λ column. (l.form.layers.1, cut_of l.form l.row column)) (range_with_len l.column (unsigned_abs l.form.columns - l.column)) ≡ l.initial.out.items ++ row_of l.form l.row;
  within : All (λ (r : LayerNo × Sides). AreSidesWithin (2 ^ 60 + 2 ^ 30) r.1) l.initial.out.items → All (λ (r : LayerNo × Sides). AreSidesWithin (2 ^ 60 + 2 ^ 30) r.1) l.out.items;
}
