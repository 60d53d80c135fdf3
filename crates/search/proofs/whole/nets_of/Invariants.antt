use Rattle.std.proofs.Common.{◌≡◌, ℕ, slice_get, take}
use Rattle.search.specs.Tables.{entry_of}
use Rattle.search.proofs.whole.nets_of.Given as goal

abbrev pub invariant-loop-net : goal.invariant-loop-net
invariant-loop-net l = (n : ℕ) → entry_of l.nets n ≡ slice_get (take l.net l.state.nets) n
