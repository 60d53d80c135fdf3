use Rattle.std.specs.Option.{option_or}
use Rattle.build.specs.Faults.{placed_fault, wired_fault}
use Rattle.build.specs.Inputs.{input_by}
use Rattle.build.specs.Metals.{IsWireMetal}
use Rattle.build.proofs.FirstFaults.{fault_here, found_fault, found_later}
use Rattle.build.proofs.checks.placed_and_wired.Goals as goal

pub returns-in_err-check_placed : goal.returns-in_err-check_placed
returns-in_err-check_placed c =
    let i = input_by c.args.given.now in
    found_fault (IsWireMetal i) c.from_residual.result c.in_err-check_placed.field-0.0 (placed_fault i) (option_or (placed_fault i) (wired_fault i)) c.from_residual.ensures.1 c.in_err-check_placed.ensures (λ h. fault_here (placed_fault i) (wired_fault i) _ h)

pub returns : goal.returns
returns c =
    let i = input_by c.args.given.now in
    found_later (IsWireMetal i) c.metal_of_wires.result (placed_fault i) (wired_fault i) c.in_ok-check_placed.ensures c.metal_of_wires.ensures
