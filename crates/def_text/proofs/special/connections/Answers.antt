use Rattle.std.proofs.Common.{ap, not, sym, refl, ◌∙◌, false}
use Rattle.rt_forms.proofs.Loops.{until_more, until_stop, until_err}
use Rattle.def_text.proofs.special.connections.Goals as goal

pub returns-in_err-special_connection : goal.returns-in_err-special_connection
returns-in_err-special_connection c = until_err _ _ _ c.connections.invariant (ap not (sym c.at.ensures ∙ c.connections-test.true)) c.in_err-special_connection.ensures c.from_residual.ensures.1

pub connections-preserved : goal.connections-preserved
connections-preserved c = until_more {b = false} c.connections.invariant (ap not (sym c.at.ensures ∙ c.connections-test.true)) c.in_ok-special_connection.ensures refl

pub returns : goal.returns
returns c = until_stop c.connections.invariant (ap not (sym c.at.ensures ∙ c.connections-test.false))
