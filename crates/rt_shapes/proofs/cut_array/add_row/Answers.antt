use Rattle.std.proofs.Common.{◌≡◌, ℕ, ◌+◌, ◌^◌, ◌<◌, [], ◌∷◌, ◌++◌, unsigned_abs, arith}
use Rattle.std.proofs.lemmas.Int.{ints}
use Rattle.std.proofs.lemmas.List.Elements.{All-push, All-same}
use Rattle.rt_base.specs.Ranges.{AreSidesWithin}
use Rattle.rt_base.specs.Sides.{Sides}
use Rattle.rt_base.specs.declared.tech.LayerNo.{LayerNo}
use Rattle.rt_shapes.specs.GeneratedVias.{cut_of}
use Rattle.rt_shapes.proofs.Counting.{map_counted}
use Rattle.rt_shapes.proofs.cut_array.add_row.Goals as goal

pub loop-column-preserved : goal.loop-column-preserved
loop-column-preserved c =
    let f = c.args.form.now in
    let column = c.loop-column.column in
    let lt : column < unsigned_abs f.columns = omega (arith, ints) in
    let step : c.push.new.self.items ≡ c.loop-column.out.items ++ (f.layers.1, cut_of f c.args.row column) ∷ [] = rw c.cut.ensures.exact at c.in_ok-push.ensures.items in
    let P : LayerNo × Sides → Type 0 = λ r. AreSidesWithin (2 ^ 60 + 2 ^ 30) r.1 in
    record {
      same = map_counted (λ (k : ℕ). (f.layers.1, cut_of f c.args.row k)) column (unsigned_abs f.columns) _ c.loop-column.out.items _ lt c.loop-column.invariant.same step;
      within = λ init. All-same P c.push.new.self.items (c.loop-column.out.items ++ (f.layers.1, c.cut.result) ∷ []) c.in_ok-push.ensures.items (All-push P c.loop-column.out.items (f.layers.1, c.cut.result) (c.loop-column.invariant.within init) c.cut.ensures.within);
    }
