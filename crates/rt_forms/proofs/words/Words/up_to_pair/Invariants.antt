use Rattle.std.proofs.Common.{◌≡◌, ◌≤◌, length}
use Rattle.rt_forms.specs.Reading.{after_pair}
use Rattle.rt_forms.proofs.words.Words.up_to_pair.Given as goal

-- what is left gives what all gives
abbrev pub invariant-skip : goal.invariant-skip
invariant-skip g l = record {
  same : after_pair g.E.Fault.faults l.first l.second l.self ≡ after_pair g.E.Fault.faults l.first l.second l.initial.self;
  shorter : length l.self ≤ length l.initial.self;
}

abbrev pub decreases-skip : goal.decreases-skip
decreases-skip g l = length l.self
