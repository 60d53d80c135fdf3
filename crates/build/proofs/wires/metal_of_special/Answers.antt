use Rattle.std.proofs.Common.{◌≡◌, ◌∙◌, true, List, [], ◌∷◌, ◌++◌, take, All, map, sym, ap, subst}
use Rattle.std.proofs.lemmas.List.Elements.{All-push}
use Rattle.track_graph.specs.Metal.{Metal}
use Rattle.build.specs.Faults.{first_by, wiring_fault}
use Rattle.build.specs.Inputs.{input_by}
use Rattle.build.specs.Metals.{AreOn}
use Rattle.build.specs.Wires.{metal_of_net}
use Rattle.build.proofs.FirstFaults.{found_fault, first_at, none_more}
use Rattle.build.proofs.Steps.{map_next}
use Rattle.build.proofs.wires.metal_of_special.Goals as goal

pub returns-in_err-metal_of_net-clause-metal : goal.returns-in_err-metal_of_net-clause-metal
returns-in_err-metal_of_net-clause-metal c =
    let i = input_by c.args.given.now in
    let test = wiring_fault (input_by c.args.given.now) true in
    found_fault (λ (ms : List (List Metal)). ms ≡ map (metal_of_net i true) i.def.special) c.from_residual.result c.in_err-metal_of_net.field-0.0 _ _ c.from_residual.ensures.1 c.in_err-metal_of_net.ensures.metal
    (λ h. sym (ap (first_by test) c.as_slice-nets.ensures) ∙ first_at test c.as_slice-nets.result.now c.loop-net.net-index c.net-item.result c.in_err-metal_of_net.field-0.0 c.loop-net-test.true c.net-item.is c.loop-net.invariant.1 h)

pub loop-net-preserved : goal.loop-net-preserved
loop-net-preserved c =
    let i = input_by c.args.given.now in
    let nets = c.as_slice-nets.result.now in
    let k = c.loop-net.net-index in
    let net = c.net-item.result in
    let m = c.in_ok-metal_of_net.field-0 in (
      c.in_ok-push.ensures.ok
          ∙ ap (λ (ms : List (List Metal)). ms ++ m ∷ []) c.loop-net.invariant.0
          ∙ ap (λ (x : List Metal). map (metal_of_net i true) (take k nets) ++ x ∷ []) c.in_ok-metal_of_net.ensures.metal.1
          ∙ sym (map_next (metal_of_net i true) nets k net c.loop-net-test.true c.net-item.is),
      none_more (wiring_fault i true) nets k net c.loop-net-test.true c.net-item.is c.loop-net.invariant.1 c.in_ok-metal_of_net.ensures.metal.0,
      subst (λ (ms : List (List Metal)). All (AreOn i) ms) (sym c.in_ok-push.ensures.ok) (All-push (AreOn i) c.loop-net.metal m c.loop-net.invariant.2 c.in_ok-metal_of_net.ensures.layers),
    )
