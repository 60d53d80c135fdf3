use Rattle.build.specs.Inputs.{input_by}
use Rattle.build.specs.Refusals.Refuses.{by_name, by_count}
use Rattle.build.proofs.Assembling.{refused}
use Rattle.build.proofs.design.designed.Goals as goal

pub returns-in_err-tech-clause-refusal : goal.returns-in_err-tech-clause-refusal
returns-in_err-tech-clause-refusal c = refused (input_by c.args.given.now) c.args.options c.from_residual.result _ c.from_residual.ensures.1 (λ other. by_name (c.in_err-tech.ensures other))

pub returns-in_err-check_counts-clause-refusal : goal.returns-in_err-check_counts-clause-refusal
returns-in_err-check_counts-clause-refusal c =
    refused (input_by c.args.given.now) c.args.options c.from_residual-in_err-check_counts.result _ c.from_residual-in_err-check_counts.ensures.1
    (λ other. by_count c.in_ok-tech.ensures.0 c.in_ok-tech.tech c.in_ok-tech.ensures.1.tech_of (c.in_err-check_counts.ensures other))
