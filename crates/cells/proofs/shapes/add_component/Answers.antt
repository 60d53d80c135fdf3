use Rattle.std.proofs.Common.{List, sym, subst}
use Rattle.rt_base.specs.Sides.{Sides}
use Rattle.rt_base.specs.declared.tech.LayerNo.{LayerNo}
use Rattle.cells.specs.Ranges.{AreNear}
use Rattle.cells.proofs.ShapeLemmas.{placeable_found}
use Rattle.cells.proofs.shapes.add_component.Goals as goal

pub add_pins-requires-clause-of : goal.add_pins-requires-clause-of
add_pins-requires-clause-of c = placeable_found c.args.macros.now c.bytes.result.now c.in-Some.of.now c.requires.macros c.in-Some.ensures

pub placed_rects-requires-clause-of : goal.placed_rects-requires-clause-of
placed_rects-requires-clause-of c = placeable_found c.args.macros.now c.bytes.result.now c.in-Some.of.now c.requires.macros c.in-Some.ensures

pub placed_rects-requires-clause-rects : goal.placed_rects-requires-clause-rects
placed_rects-requires-clause-rects c = subst (λ (rs : List (LayerNo × Sides)). AreNear rs) (sym c.as_slice.ensures) (placeable_found c.args.macros.now c.bytes.result.now c.in-Some.of.now c.requires.macros c.in-Some.ensures).obs
