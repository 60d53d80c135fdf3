use Rattle.std.proofs.Common.{◌∙◌, ◌++◌, ℕ, List, take, sym, ap}
use Rattle.std.specs.List.{enumerate_from, flat_map}
use Rattle.std.proofs.lemmas.List.{flat_map_more}
use Rattle.rt_base.specs.declared.tech.Owner.TheVariants.{Net as OfNet}
use Rattle.rt_base.specs.declared.tech.Shape.{Shape}
use Rattle.track_graph.specs.Metal.{Metal}
use Rattle.cells.specs.Cells.{fixed_shapes}
use Rattle.build.specs.Metals.{wire_shapes}
use Rattle.build.proofs.Steps.{numbered_next}
use Rattle.build.proofs.shapes.add_wired.Goals as goal

pub loop-number-preserved : goal.loop-number-preserved
loop-number-preserved c =
    let old = c.args.shapes.now.items in
    let metals = c.args.metals.now in
    let k = c.loop-number.number in
    let m = c.index-metals-number.result in
    c.in_ok-add_rects.ensures
    ∙ ap (λ (ss : List Shape). ss ++ fixed_shapes (OfNet k) c.as_slice.result.now) c.loop-number.invariant
    ∙ ap (λ (ms : List Metal). (old ++ flat_map wire_shapes (enumerate_from 0 (take k metals))) ++ fixed_shapes (OfNet k) ms) c.as_slice.ensures
    ∙ flat_map_more wire_shapes old (enumerate_from 0 (take k metals)) (k, m)
    ∙ ap (λ (zs : List (ℕ × List Metal)). old ++ flat_map wire_shapes zs) (sym (numbered_next metals k m c.loop-number-test.true c.index-metals-number.is))
