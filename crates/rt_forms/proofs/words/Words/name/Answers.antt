use Rattle.std.proofs.lemmas.Result.{err_from_is_err_and}
use Rattle.rt_forms.proofs.Clauses.{one_err}
use Rattle.rt_forms.proofs.words.Words.name.Goals as goal

pub returns-in_err-next : goal.returns-in_err-next
returns-in_err-next g c =
    let p = err_from_is_err_and c.from_residual.result c.from_residual.ensures.1 in
    one_err _ _ _ _ _ _ _ _ p.1 p.2 c.in_err-next.ensures
