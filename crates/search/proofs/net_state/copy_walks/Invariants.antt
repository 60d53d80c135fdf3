use Rattle.std.proofs.Common.{◌≡◌, take}
use Rattle.search.proofs.net_state.copy_walks.Given as goal

abbrev pub invariant-loop-walk : goal.invariant-loop-walk
invariant-loop-walk l = l.copied ≡ take l.walk-index l.walks
