use Rattle.build.specs.Faults.{connection_fault}
use Rattle.build.proofs.FirstFaults.{told_fault, first_at, none_more}
use Rattle.build.proofs.checks.check_connections.Goals as goal

pub returns-in_err-check_connection : goal.returns-in_err-check_connection
returns-in_err-check_connection c =
    told_fault c.from_residual.result c.in_err-check_connection.field-0.0 _ _ c.from_residual.ensures.1 c.in_err-check_connection.ensures
    (first_at (connection_fault c.args.lef.now c.args.def.now c.args.net) c.args.connections.now c.loop-connection.connection-index c.connection-item.result c.in_err-check_connection.field-0.0 c.loop-connection-test.true c.connection-item.is c.loop-connection.invariant)

pub loop-connection-preserved : goal.loop-connection-preserved
loop-connection-preserved c = none_more (connection_fault c.args.lef.now c.args.def.now c.args.net) c.args.connections.now c.loop-connection.connection-index c.connection-item.result c.loop-connection-test.true c.connection-item.is c.loop-connection.invariant c.in_ok-check_connection.ensures
