use Rattle.std.proofs.Common.{[], ◌∷◌, true, refl}
use Rattle.std.specs.List.{enumerate_from}
use Rattle.build.specs.Faults.{first_by, wiring_fault, net_fault, wired_fault}
use Rattle.build.specs.Inputs.{input_by}
use Rattle.build.specs.Metals.{IsWireMetal}
use Rattle.build.proofs.FirstFaults.{all_none}
use Rattle.build.proofs.NameSteps.{found_at}
use Rattle.build.proofs.checks.metal_of_wires.Goals as goal

pub returns-in_err-special : goal.returns-in_err-special
unfolding wired_fault
returns-in_err-special c =
    let i = input_by c.args.given.now in
    found_at (IsWireMetal i) 0 (first_by (wiring_fault i true) i.def.special ∷ first_by (net_fault i) (enumerate_from 0 i.def.nets) ∷ [])
    c.from_residual.result c.in_err-special.field-0.0 _ c.from_residual.ensures.1 c.in_err-special.ensures.metal tt refl

pub returns-in_err-nets : goal.returns-in_err-nets
unfolding wired_fault
returns-in_err-nets c =
    let i = input_by c.args.given.now in
    found_at (IsWireMetal i) 1 (first_by (wiring_fault i true) i.def.special ∷ first_by (net_fault i) (enumerate_from 0 i.def.nets) ∷ [])
    c.from_residual-in_err-nets.result c.in_err-nets.field-0.0 _ c.from_residual-in_err-nets.ensures.1 c.in_err-nets.ensures.metal (c.in_ok-special.ensures.metal.0, tt) refl

pub returns : goal.returns
unfolding wired_fault
returns c =
    let i = input_by c.args.given.now in (
      all_none (first_by (wiring_fault i true) i.def.special ∷ first_by (net_fault i) (enumerate_from 0 i.def.nets) ∷ []) (c.in_ok-special.ensures.metal.0, (c.in_ok-nets.ensures.metal.0, tt)),
      record {
        special = c.in_ok-special.ensures.metal.1;
        nets = c.in_ok-nets.ensures.metal.1;
        special_on = c.in_ok-special.ensures.layers;
        nets_on = c.in_ok-nets.ensures.layers;
      },
    )
