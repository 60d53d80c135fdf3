use Rattle.std.specs.Option.{option_or}
use Rattle.build.specs.Faults.{vias_part, placed_fault, wired_fault, section_fault}
use Rattle.build.specs.Inputs.{input_by}
use Rattle.build.specs.Metals.{AreWires}
use Rattle.build.proofs.FirstFaults.{fault_here, fault_later, found_fault}
use Rattle.build.proofs.WireLemmas.{wires_are}
use Rattle.build.proofs.checks.read_sections.Goals as goal

pub returns-in_err-on : goal.returns-in_err-on
unfolding section_fault
returns-in_err-on c =
    let i = input_by c.args.given.now in
    found_fault (AreWires i) c.from_residual.result c.in_err-on.field-0.0 (vias_part i) (section_fault i) c.from_residual.ensures.1 c.in_err-on.ensures
    (λ h. fault_here (vias_part i) (option_or (placed_fault i) (wired_fault i)) _ h)

pub returns-in_err-metal : goal.returns-in_err-metal
unfolding section_fault
returns-in_err-metal c =
    let i = input_by c.args.given.now in
    let rest = option_or (placed_fault i) (wired_fault i) in
    found_fault (AreWires i) c.from_residual-in_err-metal.result c.in_err-metal.field-0.0 rest (section_fault i) c.from_residual-in_err-metal.ensures.1 c.in_err-metal.ensures
    (λ h. fault_later (vias_part i) rest _ c.in_ok-on.ensures.0 h)

pub returns : goal.returns
unfolding section_fault
returns c =
    let i = input_by c.args.given.now in (
      fault_later (vias_part i) (option_or (placed_fault i) (wired_fault i)) _ c.in_ok-on.ensures.0 c.in_ok-metal.ensures.0,
      wires_are i c.in_ok-on.on c.in_ok-metal.metal c.in_ok-on.ensures.1 c.in_ok-metal.ensures.1,
    )
