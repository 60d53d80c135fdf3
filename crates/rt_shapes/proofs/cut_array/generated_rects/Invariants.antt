use Rattle.std.proofs.Common.{◌≡◌, ◌++◌, ◌-◌, ◌+◌, ◌^◌, All, unsigned_abs}
use Rattle.std.specs.List.{range_with_len, flat_map}
use Rattle.rt_base.specs.Ranges.{AreSidesWithin}
use Rattle.rt_base.specs.Sides.{Sides}
use Rattle.rt_base.specs.declared.tech.LayerNo.{LayerNo}
use Rattle.rt_shapes.specs.GeneratedVias.{row_of, generated_of}
use Rattle.rt_shapes.proofs.cut_array.generated_rects.Given as goal

abbrev pub invariant-loop-row : goal.invariant-loop-row
invariant-loop-row l = record {
  same : l.out.items ++ flat_map (row_of l.form) (range_with_len l.row (unsigned_abs l.form.rows - l.row)) ≡ generated_of l.form;
  within : All (λ (r : LayerNo × Sides). AreSidesWithin (2 ^ 60 + 2 ^ 30) r.1) l.out.items;
}
