use Rattle.std.proofs.Common.{[], ◌∷◌, ◌∙◌, ℕ, List, length, unwrap_or, sym, ap}
use Rattle.rt_base.specs.declared.tech.Layer.{Layer}
use Rattle.build.specs.declared.error.Limited.TheVariants.{RoutingLayers}
use Rattle.build.specs.Faults.{first_by, level_fault, guide_fault, limit_fault, level_and_guide_fault}
use Rattle.build.specs.Inputs.{input_by}
use Rattle.build.specs.LookUps.{layer_names_of, net_names}
use Rattle.build.specs.TrackLines.{routing_layers}
use Rattle.build.proofs.NameSteps.{levels_same, guides_same, told_at, told_last}
use Rattle.build.proofs.checks.check_levels_and_guides.Goals as goal

pub returns-in_err-check_levels : goal.returns-in_err-check_levels
unfolding level_and_guide_fault
returns-in_err-check_levels c =
    let i = input_by c.args.given.now in
    told_at 0 (
    first_by (level_fault i.def.tracks) (routing_layers i.lef.layers)
    ∷ first_by (guide_fault (layer_names_of i.lef) (net_names i.def.nets)) (unwrap_or i.guides [])
    ∷ limit_fault RoutingLayers (length (routing_layers i.lef.layers)) 16
    ∷ []) c.from_residual.result c.in_err-check_levels.field-0.0 _ c.from_residual.ensures.1 c.in_err-check_levels.ensures tt
    (levels_same i c.as_slice-layers.result.now c.as_slice.result.now c.as_slice-layers.ensures c.as_slice.ensures)

pub returns-in_err-check_guides : goal.returns-in_err-check_guides
unfolding level_and_guide_fault
returns-in_err-check_guides c =
    let i = input_by c.args.given.now in
    let levels = sym (levels_same i c.as_slice-layers.result.now c.as_slice.result.now c.as_slice-layers.ensures c.as_slice.ensures) ∙ c.in_ok-check_levels.ensures in
    told_at 1 (
    first_by (level_fault i.def.tracks) (routing_layers i.lef.layers)
    ∷ first_by (guide_fault (layer_names_of i.lef) (net_names i.def.nets)) (unwrap_or i.guides [])
    ∷ limit_fault RoutingLayers (length (routing_layers i.lef.layers)) 16
    ∷ []) c.from_residual-in_err-check_guides.result c.in_err-check_guides.field-0.0 _ c.from_residual-in_err-check_guides.ensures.1 c.in_err-check_guides.ensures (levels, tt)
    (guides_same i c.args.known.now c.requires.is_lookup)

pub returns : goal.returns
unfolding level_and_guide_fault
returns c =
    let i = input_by c.args.given.now in
    let levels = sym (levels_same i c.as_slice-layers.result.now c.as_slice.result.now c.as_slice-layers.ensures c.as_slice.ensures) ∙ c.in_ok-check_levels.ensures in
    let guides = sym (guides_same i c.args.known.now c.requires.is_lookup) ∙ c.in_ok-check_guides.ensures in
    told_last (
    first_by (level_fault i.def.tracks) (routing_layers i.lef.layers)
    ∷ first_by (guide_fault (layer_names_of i.lef) (net_names i.def.nets)) (unwrap_or i.guides [])
    ∷ []) c.check_limit.result _ (limit_fault RoutingLayers (length (routing_layers i.lef.layers)) 16) c.check_limit.ensures (levels, (guides, tt))
    (ap (λ (n : ℕ). limit_fault RoutingLayers n 16) (c.routing_count-count.ensures ∙ ap (λ (ls : List Layer). length (routing_layers ls)) c.as_slice-layers.ensures))
