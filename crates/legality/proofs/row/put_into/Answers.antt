use Rattle.std.proofs.Common.{List}
use Rattle.rt_base.specs.declared.tech.Shape.{Shape}
use Rattle.legality.proofs.RowLemmas.{part_more, one_part}
use Rattle.legality.proofs.row.put_into.Goals as goal

pub returns-in-Some-clause-ok : goal.returns-in-Some-clause-ok
returns-in-Some-clause-ok c =
    part_more c.put.result (λ (b : List Shape). b) c.args.bands.now.items c.in-Some.i c.index_mut-band.result.now c.put.new.self c.args.shape.now (rw (← c.as_slice.ensures.value) c.in-Some.ensures) c.index_mut-band.ensures.value c.put.ensures.ok

pub returns-in_ok-push-in-None-clause-ok : goal.returns-in_ok-push-in-None-clause-ok
returns-in_ok-push-in-None-clause-ok c = rw c.in_ok-push-in-None.ensures.items (one_part (λ (b : List Shape). b) c.args.bands.now.items c.in_ok-band-in-None.band c.args.shape.now c.in_ok-band-in-None.ensures)
