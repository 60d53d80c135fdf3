use Rattle.std.proofs.Common.{◌∙◌, ◌++◌, List, All, length, sym, ap, subst}
use Rattle.std.specs.List.{enumerate_from, flat_map}
use Rattle.rt_base.specs.declared.tech.Shape.{Shape}
use Rattle.track_graph.specs.Metal.{Metal}
use Rattle.build.specs.Built.{placed_of}
use Rattle.build.specs.Inputs.{input_by}
use Rattle.build.specs.Metals.{IsOnLayer, wire_shapes}
use Rattle.build.specs.Wires.{special_shapes}
use Rattle.build.proofs.WireLemmas.{wires_same, all_on}
use Rattle.build.proofs.shapes.fixed_shapes.Goals as goal

pub returns-clause-shapes : goal.returns-clause-shapes
returns-clause-shapes c =
    let i = input_by c.args.given.now in
    let placed = placed_of i.lef i.def in
    let special = flat_map (special_shapes i) i.def.special in
    c.in_ok-add_wired.ensures
    ∙ ap (λ (ss : List Shape). ss ++ flat_map wire_shapes (enumerate_from 0 c.as_slice.result.now)) (c.in_ok-add_special.ensures ∙ ap (λ (ss : List Shape). ss ++ special) c.in_ok-shapes.ensures)
    ∙ ap (λ (ms : List (List Metal)). (placed ++ special) ++ flat_map wire_shapes (enumerate_from 0 ms)) c.as_slice.ensures
    ∙ ap (λ (ss : List Shape). (placed ++ special) ++ ss) (wires_same i c.args.metal.now c.requires.metal)

pub returns-clause-layers : goal.returns-clause-layers
returns-clause-layers c =
    let i = input_by c.args.given.now in
    subst (λ (ss : List Shape). All (IsOnLayer (length i.lef.layers)) ss) (sym (returns-clause-shapes c)) (all_on i c.args.metal.now c.requires.known.is_input c.requires.metal)
