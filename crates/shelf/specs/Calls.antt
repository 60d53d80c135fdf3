-- Calls that come one after another, some of which fail.
use Rattle.std.specs.Prelude.{◌==◌, ℕ, ◌+◌, ◌/◌, min, Bool, List, length, take, if◌then◌else◌}
use Rattle.std.specs.List.{list_any}
use Rattle.shelf.specs.Faults.{count_end}

-- the numbers of the calls that fail, how many calls came, and the count of faults
pub record CallState : Type 0 where
  pub fails : List ℕ
  pub came : ℕ
  pub faults : ℕ

-- one more, or the end of the type
abbrev pub counted : ℕ → ℕ
counted n = min (n + 1) count_end

-- before the first call
abbrev pub uncalled : List ℕ → CallState
uncalled fails = record { fails = fails; came = 0; faults = 0 }

-- whether the next call is one of those that fail
abbrev pub is_failing : CallState → Bool
is_failing s = list_any (λ number. number == s.came) s.fails

-- after one more call
abbrev pub called : CallState → CallState
called s = record s { came = counted s.came }

-- after one more fault
abbrev pub faulted : CallState → CallState
faulted s = record s { faults = counted s.faults }

-- after a call that failed, or not
abbrev pub after_call : Bool → CallState → CallState
after_call fails s = if fails then faulted (called s) else called s

-- what the next call writes of the bytes: all of them, or the first half where it fails
abbrev pub written : CallState → List ℕ → List ℕ
written s bytes = if is_failing s then take (length bytes / 2) bytes else bytes
