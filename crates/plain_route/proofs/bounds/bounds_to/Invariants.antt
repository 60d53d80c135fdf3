use Rattle.std.proofs.Common.{length}
use Rattle.plain_route.proofs.BoundLemmas.{AreAimedSoFar}
use Rattle.plain_route.proofs.bounds.bounds_to.Given as goal

abbrev pub invariant-groups : goal.invariant-groups
invariant-groups l = AreAimedSoFar l.stops l.rest l.via l.bounds

abbrev pub decreases-groups : goal.decreases-groups
decreases-groups l = length l.rest
