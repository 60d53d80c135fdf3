use Rattle.build.specs.Inputs.{input_by}
use Rattle.build.proofs.Assembling.{ground_is, too_large, refused, out_of_memory}
use Rattle.build.proofs.design.rest_of_design.Goals as goal

pub sized_nets-requires-clause-ground : goal.sized_nets-requires-clause-ground
sized_nets-requires-clause-ground c = ground_is (input_by c.args.given.now) c.args.options c.args.known.now c.args.index.now c.args.tech.now c.in_ok-tracks.tracks c.requires.stands c.in_ok-tracks.ensures

pub returns-in_err-tracks-clause-refusal : goal.returns-in_err-tracks-clause-refusal
returns-in_err-tracks-clause-refusal c = out_of_memory (input_by c.args.given.now) c.args.options c.from_residual.result c.from_residual.ensures.1

pub returns-in_err-nets-clause-refusal : goal.returns-in_err-nets-clause-refusal
returns-in_err-nets-clause-refusal c =
    let i = input_by c.args.given.now in
    refused i c.args.options c.from_residual-in_err-nets.result c.in_err-nets.field-0.0 c.from_residual-in_err-nets.ensures.1
    (λ other. too_large i c.args.options c.args.known.now c.args.index.now c.args.tech.now c.in_ok-tracks.tracks c.in_err-nets.field-0.0 c.requires.stands c.in_ok-tracks.ensures (c.in_err-nets.ensures.sizes other))

pub returns-in_err-skipped-clause-refusal : goal.returns-in_err-skipped-clause-refusal
returns-in_err-skipped-clause-refusal c = out_of_memory (input_by c.args.given.now) c.args.options c.from_residual-in_err-skipped.result c.from_residual-in_err-skipped.ensures.1

pub returns-clause-rest : goal.returns-clause-rest
returns-clause-rest c = record {
  levels = c.in_ok-tracks.ensures;
  nets = c.in_ok-nets.ensures.nets;
  sized = c.in_ok-nets.ensures.sizes;
  skipped = c.in_ok-skipped.ensures;
}
