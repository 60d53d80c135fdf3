use Rattle.std.proofs.Common.{sym, refl}
use Rattle.rt_forms.proofs.Loops.{text_more, text_err, text_end}
use Rattle.guide_text.proofs.read.nets.Goals as goal

pub returns-in_err-net-clause-reads : goal.returns-in_err-net-clause-reads
returns-in_err-net-clause-reads c = text_err _ _ _ c.nets.invariant.until (sym c.nets-test.ensures) c.in_err-net.ensures.reads c.from_residual.ensures.1

pub nets-preserved : goal.nets-preserved
nets-preserved c = record { until = text_more c.nets.invariant.until (sym c.nets-test.ensures) c.in_ok-net.ensures.reads refl; sound = c.in_ok-net.ensures.sound }

pub returns-clause-reads : goal.returns-clause-reads
returns-clause-reads c = text_end c.nets.invariant.until (sym c.nets-test.ensures)
