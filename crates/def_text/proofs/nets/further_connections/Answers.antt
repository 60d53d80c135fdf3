use Rattle.std.proofs.Common.{ap, not, sym, refl, ◌∙◌, false, arith}
use Rattle.rt_forms.proofs.Loops.{until_more, until_stop, until_err}
use Rattle.def_text.proofs.nets.further_connections.Goals as goal

pub returns-in_err-connection-clause-reads : goal.returns-in_err-connection-clause-reads
returns-in_err-connection-clause-reads c = until_err _ _ _ c.connections.invariant.until (ap not (sym c.at.ensures ∙ c.connections-test.true)) c.in_err-connection.ensures.reads c.from_residual.ensures.1

pub connections-preserved : goal.connections-preserved
connections-preserved c = record {
  until = until_more {b = false} c.connections.invariant.until (ap not (sym c.at.ensures ∙ c.connections-test.true)) c.in_ok-connection.ensures.reads refl;
  sound = c.in_ok-connection.ensures.sound;
  few = omega (arith, c.in_ok-connection.ensures.few, c.connections.invariant.few);
}

pub returns-clause-reads : goal.returns-clause-reads
returns-clause-reads c = until_stop c.connections.invariant.until (ap not (sym c.at.ensures ∙ c.connections-test.false))
