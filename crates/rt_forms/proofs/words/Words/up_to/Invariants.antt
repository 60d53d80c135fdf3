use Rattle.std.proofs.Common.{◌≡◌, ◌≤◌, length, bytes_eq}
use Rattle.rt_forms.specs.Reading.{after_first}
use Rattle.rt_forms.proofs.words.Words.up_to.Given as goal

-- what is left gives what all gives
abbrev pub invariant-skip : goal.invariant-skip
invariant-skip g l = record {
  same : after_first g.E.Fault.faults (λ w. bytes_eq w l.word) l.self ≡ after_first g.E.Fault.faults (λ w. bytes_eq w l.word) l.initial.self;
  shorter : length l.self ≤ length l.initial.self;
}

abbrev pub decreases-skip : goal.decreases-skip
decreases-skip g l = length l.self
