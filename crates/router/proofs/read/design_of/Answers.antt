use Rattle.std.proofs.lemmas.Result.{err_from_is_err_and}
use Rattle.rt_base.proofs.Scanning.{made_inside}
use Rattle.std.specs.Option.{option_copied}
use Rattle.router.specs.Words.{asked_by}
use Rattle.router.proofs.ReadLemmas.{build_refusal, ready_of}
use Rattle.router.proofs.read.design_of.Goals as goal

pub build-requires-clause-tokens : goal.build-requires-clause-tokens
build-requires-clause-tokens c = rw (c.as_slice.ensures, c.as_slice-2.ensures) (made_inside _ _ c.requires.def.cut.made)

pub build-requires-clause-ranges : goal.build-requires-clause-ranges
build-requires-clause-ranges c = rw c.as_slice-2.ensures c.requires.said.ranges

pub returns-in_err-build-clause-refusal : goal.returns-in_err-build-clause-refusal
returns-in_err-build-clause-refusal c =
    let p = err_from_is_err_and c.from_residual.result c.from_residual.ensures.1 in
    rw (p.1, p.2) (build_refusal (asked_by c.args.command.now) c.args.def.now c.args.said.now (option_copied c.args.guides) _ (rw (c.as_slice.ensures, c.as_slice-2.ensures, c.options_of-options.ensures.options) at c.in_err-build.ensures.refusal))

pub returns-clause-design : goal.returns-clause-design
returns-clause-design c = rw (c.as_slice.ensures, c.as_slice-2.ensures, c.options_of-options.ensures.options) at c.in_ok-build.ensures.design

pub returns-clause-ready : goal.returns-clause-ready
returns-clause-ready c = ready_of _ _ c.args.def.now.text _ c.in_ok-build.ensures.fits c.in_ok-build.ensures.design.design c.requires.said.closes
