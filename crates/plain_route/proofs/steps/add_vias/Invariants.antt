use Rattle.plain_route.specs.Steps.{HasVias}
use Rattle.plain_route.proofs.steps.add_vias.Given as goal

abbrev pub invariant-loop-k : goal.invariant-loop-k
invariant-loop-k l = HasVias l.tech l.v l.k l.initial.edges l.edges
