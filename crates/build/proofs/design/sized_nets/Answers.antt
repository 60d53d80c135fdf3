use Rattle.std.proofs.Common.{◌∙◌, List, All, refl, sym, subst}
use Rattle.std.specs.List.{AllZip}
use Rattle.def_text.specs.declared.def.DefNet.{DefNet}
use Rattle.def_text.specs.Defs.{IsDefNet}
use Rattle.build.specs.Ground.{IsBuiltNet, input_on, system_on}
use Rattle.build.proofs.Assembling.{sized_refused, sizes_through}
use Rattle.build.proofs.design.sized_nets.Goals as goal

pub nets-requires-clause-said : goal.nets-requires-clause-said
nets-requires-clause-said c = subst (λ (ns : List DefNet). All IsDefNet ns) (sym c.as_slice.ensures) c.requires.ground.is_input.is_def.nets

pub returns-in_err-entries-clause-sizes : goal.returns-in_err-entries-clause-sizes
returns-in_err-entries-clause-sizes c = sized_refused (input_on c.args.on.now) c.args.options (system_on c.args.on.now) c.from_residual.result _ c.from_residual.ensures.1 (λ other. absurd (other refl))

pub returns-in_err-check_sizes-clause-sizes : goal.returns-in_err-check_sizes-clause-sizes
returns-in_err-check_sizes-clause-sizes c =
    let i = input_on c.args.on.now in
    let same = sizes_through i c.args.options c.grid.result c.args.shapes.now c.in_ok-entries.entries c.grid.ensures c.requires.shapes in
    sized_refused i c.args.options (system_on c.args.on.now) c.from_residual-in_err-check_sizes.result c.in_err-check_sizes.field-0.0 c.from_residual-in_err-check_sizes.ensures.1
    (λ other. record { entries = c.in_ok-entries.entries; entries_of = c.in_ok-entries.ensures; sizes = sym same ∙ c.in_err-check_sizes.ensures other })

pub returns-clause-nets : goal.returns-clause-nets
returns-clause-nets c = subst (λ (ns : List DefNet). AllZip (IsBuiltNet (input_on c.args.on.now) (system_on c.args.on.now)) ns c.in_ok-nets.field-0) c.as_slice.ensures c.in_ok-nets.ensures

pub returns-clause-sizes : goal.returns-clause-sizes
returns-clause-sizes c =
    let i = input_on c.args.on.now in
    let same = sizes_through i c.args.options c.grid.result c.args.shapes.now c.in_ok-entries.entries c.grid.ensures c.requires.shapes in
    record { entries = c.in_ok-entries.entries; entries_of = c.in_ok-entries.ensures; sizes = sym same ∙ c.in_ok-check_sizes.ensures }
