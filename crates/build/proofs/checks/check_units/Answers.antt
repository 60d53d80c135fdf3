use Rattle.std.proofs.Common.{[], ◌∷◌, refl}
use Rattle.build.specs.Faults.{first_by, scale_fault, row_fault, unit_fault}
use Rattle.build.specs.Inputs.{input_by}
use Rattle.build.specs.LookUps.{layer_names_of}
use Rattle.build.proofs.NameSteps.{rows_same, told_at, told_last}
use Rattle.build.proofs.checks.check_units.Goals as goal

pub returns-in_err-check_scale : goal.returns-in_err-check_scale
unfolding unit_fault
returns-in_err-check_scale c =
    let i = input_by c.args.given.now in
    told_at 0 (scale_fault i.lef i.def ∷ first_by (row_fault (layer_names_of i.lef)) i.def.tracks ∷ []) c.from_residual.result c.in_err-check_scale.field-0.0 _ c.from_residual.ensures.1 c.in_err-check_scale.ensures tt refl

pub returns : goal.returns
unfolding unit_fault
returns c =
    let i = input_by c.args.given.now in
    let known = c.args.known.now in
    told_last (scale_fault i.lef i.def ∷ []) c.check_rows.result _ (first_by (row_fault (layer_names_of i.lef)) i.def.tracks) c.check_rows.ensures
    (c.in_ok-check_scale.ensures, tt) (rows_same i known c.as_slice.result.now c.requires.is_lookup c.as_slice.ensures)
