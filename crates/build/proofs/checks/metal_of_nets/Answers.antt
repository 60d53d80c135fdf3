use Rattle.std.proofs.Common.{◌≡◌, ◌∙◌, false, List, [], ◌∷◌, ◌++◌, take, All, map, sym, ap, subst}
use Rattle.std.specs.List.{enumerate_from}
use Rattle.std.proofs.lemmas.List.Elements.{All-push}
use Rattle.track_graph.specs.Metal.{Metal}
use Rattle.def_text.specs.declared.def.DefNet.{DefNet}
use Rattle.build.specs.Faults.{first_by, net_fault}
use Rattle.build.specs.Inputs.{input_by}
use Rattle.build.specs.Metals.{AreOn}
use Rattle.build.specs.Wires.{metal_of_net}
use Rattle.build.proofs.FirstFaults.{found_fault}
use Rattle.build.proofs.FaultSteps.{numbered_at, numbered_none}
use Rattle.build.proofs.Steps.{map_next}
use Rattle.build.proofs.checks.metal_of_nets.Goals as goal

pub returns-in_err-net_metal-clause-metal : goal.returns-in_err-net_metal-clause-metal
returns-in_err-net_metal-clause-metal c =
    let i = input_by c.args.given.now in
    let test = net_fault (input_by c.args.given.now) in
    found_fault (λ (ms : List (List Metal)). ms ≡ map (metal_of_net i false) i.def.nets) c.from_residual.result c.in_err-net_metal.field-0.0 _ _ c.from_residual.ensures.1 c.in_err-net_metal.ensures.metal
    (λ h. sym (ap (λ (ns : List DefNet). first_by test (enumerate_from 0 ns)) c.as_slice-nets.ensures) ∙ numbered_at test c.as_slice-nets.result.now c.loop-number.number c.index-nets-number.result c.in_err-net_metal.field-0.0 c.loop-number-test.true c.index-nets-number.is c.loop-number.invariant.1 h)

pub loop-number-preserved : goal.loop-number-preserved
loop-number-preserved c =
    let i = input_by c.args.given.now in
    let nets = c.as_slice-nets.result.now in
    let k = c.loop-number.number in
    let net = c.index-nets-number.result in
    let m = c.in_ok-net_metal.field-0 in (
      c.in_ok-push.ensures.ok
          ∙ ap (λ (ms : List (List Metal)). ms ++ m ∷ []) c.loop-number.invariant.0
          ∙ ap (λ (x : List Metal). map (metal_of_net i false) (take k nets) ++ x ∷ []) c.in_ok-net_metal.ensures.metal.1
          ∙ sym (map_next (metal_of_net i false) nets k net c.loop-number-test.true c.index-nets-number.is),
      numbered_none (net_fault i) nets k net c.loop-number-test.true c.index-nets-number.is c.loop-number.invariant.1 c.in_ok-net_metal.ensures.metal.0,
      subst (λ (ms : List (List Metal)). All (AreOn i) ms) (sym c.in_ok-push.ensures.ok) (All-push (AreOn i) c.loop-number.metal m c.loop-number.invariant.2 c.in_ok-net_metal.ensures.layers),
    )
