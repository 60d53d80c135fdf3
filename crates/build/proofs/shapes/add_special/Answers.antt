use Rattle.std.proofs.Common.{◌≡◌, ◌∙◌, ◌++◌, ℕ, true, List, take, map, position, bytes_eq, sym, ap}
use Rattle.std.specs.List.{flat_map}
use Rattle.std.proofs.lemmas.List.{flat_map_more}
use Rattle.rt_base.specs.declared.tech.Owner.{Owner}
use Rattle.rt_base.specs.declared.tech.Shape.{Shape}
use Rattle.track_graph.specs.Metal.{Metal}
use Rattle.def_text.specs.declared.def.DefNet.{DefNet}
use Rattle.cells.specs.Cells.{fixed_shapes}
use Rattle.cells.specs.Owners.{owner_from}
use Rattle.build.specs.Inputs.{input_by}
use Rattle.build.specs.Wires.{metal_of_net, named_owner, special_shapes}
use Rattle.build.proofs.Steps.{next}
use Rattle.build.proofs.WireLemmas.{metal_at}
use Rattle.build.proofs.shapes.add_special.Goals as goal

pub loop-number-preserved : goal.loop-number-preserved
loop-number-preserved c =
    let i = input_by c.args.given.now in
    let old = c.args.shapes.now.items in
    let nets = c.as_slice-nets.result.now in
    let k = c.loop-number.number in
    let net = c.index-nets-number.result in
    let names = c.args.known.now.nets in
    let before : List Shape = c.args.shapes.now.items ++ flat_map (special_shapes i) (take k nets) in
    let owner : c.owner_named-owner.result ≡ named_owner (input_by c.args.given.now).def.nets c.index-nets-number.result.name =
    c.owner_named-owner.ensures ∙ ap (λ (b : List ℕ). owner_from (position (bytes_eq b) names)) c.bytes.ensures ∙ ap (λ (ns : List (List ℕ)). owner_from (position (bytes_eq net.name) ns)) c.requires.known.is_lookup.are_net_names in
    let metal : c.as_slice.result.now ≡ metal_of_net (input_by c.args.given.now) true c.index-nets-number.result =
    c.as_slice.ensures
    ∙ metal_at (metal_of_net i true) nets c.as_slice-metals.result.now k net c.index-metals-number.result
    (c.as_slice-metals.ensures ∙ c.requires.metal.special ∙ ap (λ (ns : List DefNet). map (metal_of_net i true) ns) (sym c.as_slice-nets.ensures))
    c.loop-number-test.true c.index-nets-number.is c.index-metals-number.is in
    c.in_ok-add_rects.ensures
    ∙ ap (λ (ss : List Shape). ss ++ fixed_shapes c.owner_named-owner.result c.as_slice.result.now) c.loop-number.invariant
    ∙ ap (λ (o : Owner). before ++ fixed_shapes o c.as_slice.result.now) owner
    ∙ ap (λ (ms : List Metal). before ++ fixed_shapes (named_owner i.def.nets net.name) ms) metal
    ∙ flat_map_more (special_shapes i) old (take k nets) net
    ∙ ap (λ (ns : List DefNet). old ++ flat_map (special_shapes i) ns) (sym (next nets k net c.loop-number-test.true c.index-nets-number.is))
