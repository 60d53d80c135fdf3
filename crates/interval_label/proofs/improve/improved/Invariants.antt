use Rattle.interval_label.specs.Search.{IsImproved}
use Rattle.interval_label.proofs.Improving.{IsBefore}
use Rattle.interval_label.proofs.improve.improved.Given as goal

abbrev pub invariant-targets : goal.invariant-targets
invariant-targets l = IsImproved l.arena.graph l.targets l.label l.number (IsBefore l.row l.k-index) l.fn.best l.improved
