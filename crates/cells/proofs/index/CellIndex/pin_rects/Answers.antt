use Rattle.std.proofs.Common.{List, bytes_eq, sym, subst}
use Rattle.rt_base.specs.Sides.{Sides}
use Rattle.rt_base.specs.declared.tech.LayerNo.{LayerNo}
use Rattle.def_text.specs.declared.def.Component.{Component}
use Rattle.def_text.specs.Defs.{IsComponent}
use Rattle.cells.specs.Ranges.{AreNear}
use Rattle.cells.proofs.Lists.{All-found}
use Rattle.cells.proofs.ShapeLemmas.{placeable_found, near_found}
use Rattle.cells.proofs.index.CellIndex.pin_rects.Goals as goal

pub placed_rects-requires-clause-of : goal.placed_rects-requires-clause-of
placed_rects-requires-clause-of c = placeable_found c.args.macros.now c.bytes-2.result.now c.in-Some-macro_of.of.now c.requires.macros c.in-Some-macro_of.ensures

pub placed_rects-requires-clause-placed : goal.placed_rects-requires-clause-placed
placed_rects-requires-clause-placed c = (All-found IsComponent (λ (x : Component). bytes_eq c.bytes.result.now x.name) c.args.components.now c.in-Some.component.now c.requires.components (sym c.in-Some.ensures)).placed

pub placed_rects-requires-clause-rects : goal.placed_rects-requires-clause-rects
placed_rects-requires-clause-rects c = subst (λ (rs : List (LayerNo × Sides)). AreNear rs) (sym c.as_slice.ensures) (near_found c.args.macros.now c.bytes-3.result.now c.bytes-4.result.now c.in-Some-pin_in.pin.now c.requires.macros c.in-Some-pin_in.ensures)
