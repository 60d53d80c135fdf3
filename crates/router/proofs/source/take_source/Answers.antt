use Rattle.std.proofs.Common.{◌≤◌, Err, ap, length, arith}
use Rattle.std.proofs.lemmas.Result.{err_from_is_err_and}
use Rattle.router.proofs.ReadLemmas.{take_fault, scan_fault, source_of}
use Rattle.router.proofs.source.take_source.Goals as goal

pub returns-in_err-text-clause-fault : goal.returns-in_err-text-clause-fault
returns-in_err-text-clause-fault g c =
    let p = err_from_is_err_and c.from_residual.result c.from_residual.ensures.1 in
    rw (p.1, p.2) (take_fault _ _ _ _ _ _ (λ h. c.in_err-text.ensures.failed (ap Err h)) (λ read h. rw h at c.in_err-text.ensures.above) (λ read h. rw h at c.in_err-text.ensures.long))

pub returns-in_err-cut-clause-fault : goal.returns-in_err-cut-clause-fault
returns-in_err-cut-clause-fault g c =
    let p = err_from_is_err_and c.from_residual-in_err-cut.result c.from_residual-in_err-cut.ensures.1 in
    let within : length c.in_ok-text.text.items ≤ c.args.most = omega (arith, c.in_ok-text.text.ok.0, c.in_ok-text.ensures.within) in
    rw (p.1, p.2) (scan_fault _ _ _ _ _ _ _ c.in_ok-text.ensures.bytes within c.in_err-cut.ensures.fault)

pub returns-clause-found : goal.returns-clause-found
returns-clause-found g c =
    let within : length c.in_ok-text.text.items ≤ c.args.most = omega (arith, c.in_ok-text.text.ok.0, c.in_ok-text.ensures.within) in
    source_of _ _ _ _ _ c.in_ok-text.ensures.bytes within c.in_ok-cut.ensures.found.0 c.in_ok-cut.ensures.found.1
