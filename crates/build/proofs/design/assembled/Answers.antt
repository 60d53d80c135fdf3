use Rattle.rt_base.specs.declared.tech.Tech.{Tech}
use Rattle.build.specs.Inputs.{input_by}
use Rattle.build.proofs.Assembling.{refused, assembled_gives, assembled_fits}
use Rattle.build.proofs.design.assembled.Goals as goal

pub returns-in_err-rest-clause-refusal : goal.returns-in_err-rest-clause-refusal
returns-in_err-rest-clause-refusal c = refused (input_by c.args.given.now) c.args.options c.from_residual.result _ c.from_residual.ensures.1 c.in_err-rest.ensures.refusal

pub returns-clause-design : goal.returns-clause-design
returns-clause-design c =
    let tech : Tech = record { layers = c.args.tech.layers; vias = c.args.tech.vias } in
    assembled_gives (input_by c.args.given.now) c.args.options c.args.known.now c.args.index.now tech c.grid.result c.args.shapes c.in_ok-rest.rest c.requires.stands c.grid.ensures c.requires.shapes c.in_ok-rest.ensures.rest

pub returns-clause-fits : goal.returns-clause-fits
returns-clause-fits c =
    let tech : Tech = record { layers = c.args.tech.layers; vias = c.args.tech.vias } in
    assembled_fits (input_by c.args.given.now) c.args.options c.args.known.now c.args.index.now tech c.grid.result c.args.shapes c.in_ok-rest.rest c.requires.stands c.grid.ensures c.requires.shapes c.in_ok-rest.ensures.rest
