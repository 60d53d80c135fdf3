-- A sink in memory as contracts see it.
use Rattle.std.specs.Prelude.{ℕ, List, ◌++◌}
use Rattle.shelf.specs.Calls.{CallState, is_failing, after_call, written}

-- what was said, and the calls that it had
pub record SinkState : Type 0 where
  pub text : List ℕ
  pub calls : CallState

-- after bytes were said
abbrev pub after_say : SinkState → List ℕ → SinkState
after_say s bytes = record { text = s.text ++ written s.calls bytes; calls = after_call (is_failing s.calls) s.calls }
