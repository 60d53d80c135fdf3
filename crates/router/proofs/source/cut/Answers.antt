use Rattle.std.proofs.lemmas.Result.{err_from_is_err_and}
use Rattle.router.proofs.ReadLemmas.{scan_refused}
use Rattle.router.proofs.source.cut.Goals as goal

pub returns-in_err-tokens-clause-fault : goal.returns-in_err-tokens-clause-fault
returns-in_err-tokens-clause-fault c =
    let p = err_from_is_err_and c.from_residual.result c.from_residual.ensures.1 in
    rw (p.1, p.2) (scan_refused c.args.text.items _ (rw c.deref.ensures.value at c.in_err-tokens.ensures.found))
