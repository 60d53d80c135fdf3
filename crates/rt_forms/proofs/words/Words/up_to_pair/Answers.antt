use Rattle.std.proofs.Common.{sym, ◌∙◌}
use Rattle.std.proofs.lemmas.Result.{err_from_is_err_and}
use Rattle.rt_forms.specs.Reading.{up_to_pair}
use Rattle.rt_forms.proofs.Clauses.{handed}
use Rattle.rt_forms.proofs.Skips.{pair_err}
use Rattle.rt_forms.proofs.words.Words.up_to_pair.Goals as goal

pub returns-in_err-next : goal.returns-in_err-next
returns-in_err-next g c =
    let p = err_from_is_err_and c.from_residual.result c.from_residual.ensures.1 in
    let f = g.E.Fault.faults in
    handed f (λ x. x) (up_to_pair c.args.first.now c.args.second.now) _ _ _ _ _ p.1 p.2 (λ n. sym c.skip.invariant.same ∙ pair_err f c.args.first.now c.args.second.now c.skip.self _ (c.in_err-next.ensures n))
