use Rattle.std.proofs.Common.{◌≡◌, ◌≤◌, length}
use Rattle.rt_forms.specs.Reading.{from_first, ends_option}
use Rattle.rt_forms.proofs.words.Words.option_rest.Given as goal

-- what is left gives what all gives
abbrev pub invariant-skip : goal.invariant-skip
invariant-skip g l = record {
  same : from_first ends_option l.self ≡ from_first ends_option l.initial.self;
  shorter : length l.self ≤ length l.initial.self;
}

abbrev pub decreases-skip : goal.decreases-skip
decreases-skip g l = length l.self
