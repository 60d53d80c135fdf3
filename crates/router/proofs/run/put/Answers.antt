use Rattle.std.proofs.Common.{refl, inl}
use Rattle.router.proofs.RunLemmas.{unput_file}
use Rattle.router.proofs.run.put.Goals as goal

pub returns-in-Err-Failed-clause-err : goal.returns-in-Err-Failed-clause-err
returns-in-Err-Failed-clause-err g c =
    let e = rw c.in-Err-Failed.field-0-is at c.in-Err-Failed.ensures in
    unput_file _ _ _ _ _ c.unwritten.ensures (e.failed refl) (e.cut refl)

pub returns-in-Err-Memory-clause-err : goal.returns-in-Err-Memory-clause-err
returns-in-Err-Memory-clause-err g c =
    let e = rw c.in-Err-Memory.field-0-is at c.in-Err-Memory.ensures in
    inl (e.memory refl)
