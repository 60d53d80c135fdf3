use Rattle.std.proofs.Common.{ℕ, ◌+◌, List, take, sym, subst}
use Rattle.std.specs.List.{AllZip}
use Rattle.rt_base.specs.Sides.{Sides}
use Rattle.rt_base.specs.declared.tech.LayerNo.{LayerNo}
use Rattle.cells.specs.declared.firsts.Firsts.{Firsts}
use Rattle.cells.specs.Firsts.{ArePlaces}
use Rattle.cells.specs.Indexes.{ArePinsOf}
use Rattle.cells.proofs.Lists.{taken_more}
use Rattle.cells.proofs.index.pins_of_macros.Goals as goal

pub loop-each-preserved : goal.loop-each-preserved
loop-each-preserved c =
    let pins = subst (λ (ps : List (List ℕ × List (LayerNo × Sides))). ArePlaces (λ (p : List ℕ × List (LayerNo × Sides)). p.0) ps c.in_ok-pins_by_name.field-0) c.as_slice.ensures c.in_ok-pins_by_name.ensures in
    subst (λ (fs : List (Firsts ℕ)). AllZip ArePinsOf (take (c.loop-each.each-index + 1) c.args.macros.now) fs) (sym c.in_ok-push.ensures.ok)
    (taken_more ArePinsOf c.args.macros.now c.loop-each.each-index c.each-item.result c.loop-each.pins c.in_ok-pins_by_name.field-0 c.loop-each-test.true c.each-item.is c.loop-each.invariant pins)
