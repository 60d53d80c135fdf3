use Rattle.std.proofs.Common.{◌≡◌, take}
use Rattle.future_cost.proofs.Hulls.{IsHullSoFar}
use Rattle.future_cost.proofs.bound.Bound.new.Given as goal

abbrev pub invariant-targets : goal.invariant-targets
invariant-targets l = record {
  hull : IsHullSoFar l.targets (take l.target-index l.targets) l.bound;
  via : l.bound.via ≡ l.fn.via;
}
