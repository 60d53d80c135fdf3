use Rattle.std.proofs.Common.{[], ◌∷◌, refl}
use Rattle.build.specs.Faults.{unit_fault, section_fault, level_and_guide_fault, name_fault}
use Rattle.build.specs.Inputs.{input_by}
use Rattle.build.specs.Metals.{AreWires}
use Rattle.build.proofs.FirstFaults.{all_none}
use Rattle.build.proofs.NameSteps.{found_at}
use Rattle.build.proofs.checks.check_names.Goals as goal

pub returns-in_err-check_units : goal.returns-in_err-check_units
unfolding name_fault
returns-in_err-check_units c =
    let i = input_by c.args.given.now in
    found_at (AreWires i) 0 (unit_fault i ∷ section_fault i ∷ level_and_guide_fault i ∷ [])
    c.from_residual.result c.in_err-check_units.field-0.0 _ c.from_residual.ensures.1 c.in_err-check_units.ensures tt refl

pub returns-in_err-read : goal.returns-in_err-read
unfolding name_fault
returns-in_err-read c =
    let i = input_by c.args.given.now in
    found_at (AreWires i) 1 (unit_fault i ∷ section_fault i ∷ level_and_guide_fault i ∷ [])
    c.from_residual-in_err-read.result c.in_err-read.field-0.0 _ c.from_residual-in_err-read.ensures.1 c.in_err-read.ensures (c.in_ok-check_units.ensures, tt) refl

pub returns-in_err-check_levels_and_guides : goal.returns-in_err-check_levels_and_guides
unfolding name_fault
returns-in_err-check_levels_and_guides c =
    let i = input_by c.args.given.now in
    found_at (AreWires i) 2 (unit_fault i ∷ section_fault i ∷ level_and_guide_fault i ∷ [])
    c.from_residual-in_err-check_levels_and_guides.result c.in_err-check_levels_and_guides.field-0.0 _ c.from_residual-in_err-check_levels_and_guides.ensures.1 c.in_err-check_levels_and_guides.ensures
    (c.in_ok-check_units.ensures, (c.in_ok-read.ensures.0, tt)) refl

pub returns : goal.returns
unfolding name_fault
returns c =
    let i = input_by c.args.given.now in (
      all_none (unit_fault i ∷ section_fault i ∷ level_and_guide_fault i ∷ []) (c.in_ok-check_units.ensures, (c.in_ok-read.ensures.0, (c.in_ok-check_levels_and_guides.ensures, tt))),
      c.in_ok-read.ensures.1,
    )
