use Rattle.std.proofs.Common.{◌∙◌, ◌++◌, List, take, sym, ap}
use Rattle.std.specs.Prelude.{flat_map}
use Rattle.std.proofs.lemmas.List.{flat_map_more}
use Rattle.rt_base.specs.declared.tech.Shape.{Shape}
use Rattle.def_text.specs.declared.def.Component.{Component}
use Rattle.cells.specs.Cells.{component_shapes}
use Rattle.cells.specs.Indexes.{owner_in}
use Rattle.cells.proofs.Lists.{next}
use Rattle.cells.proofs.shapes.add_components.Goals as goal

pub loop-component-preserved : goal.loop-component-preserved
loop-component-preserved c =
    let part = component_shapes c.args.macros.now (owner_in c.args.owners.now) in
    let old = c.args.shapes.now.items in
    let components = c.args.components.now in
    let i = c.loop-component.component-index in
    let component = c.component-item.result in
    c.in_ok-add_component.ensures
    ∙ ap (λ (ss : List Shape). ss ++ part component) c.loop-component.invariant
    ∙ flat_map_more part old (take i components) component
    ∙ ap (λ (cs : List Component). old ++ flat_map part cs) (sym (next components i component c.loop-component-test.true c.component-item.is))
