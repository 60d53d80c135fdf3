use Rattle.std.proofs.Common.{ℕ, ◌<◌}
use Rattle.legality.specs.Rules.{IsLevelOf}
use Rattle.legality.proofs.rule.level_of.Given as goal

abbrev pub invariant-loop-level : goal.invariant-loop-level
invariant-loop-level l = (k : ℕ) → k < l.level → IsLevelOf l.tech l.layer k → ⊥
