use Rattle.def_text.proofs.Finishing.{finished_sound, finished_ranges}
use Rattle.def_text.proofs.statements.finished.Goals as goal

pub returns-clause-sound : goal.returns-clause-sound
returns-clause-sound c =
    let u = rw c.in-Some.is at c.requires.units in
    let e = rw c.in-Some-die.is at c.requires.die in
    rw (c.or_none.ensures, c.or_none-2.ensures, c.or_none-3.ensures, c.or_none-4.ensures, c.or_none-5.ensures, c.or_none-6.ensures)
    (λ named. finished_sound c.args.parsed c.in-Some.units c.in-Some-die.die c.requires u e named)

pub returns-clause-ranges : goal.returns-clause-ranges
returns-clause-ranges c =
    rw (c.or_none.ensures, c.or_none-2.ensures, c.or_none-3.ensures, c.or_none-4.ensures, c.or_none-5.ensures, c.or_none-6.ensures)
    (finished_ranges c.args.parsed c.in-Some.units c.in-Some-die.die c.requires)
