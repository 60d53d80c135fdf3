use Rattle.std.proofs.Common.{◌≡◌, ℕ, option_map, slice_get, take}
use Rattle.search.specs.Tables.{entry_of}
use Rattle.track_graph.specs.declared.history.NetState.{NetState}
use Rattle.search.proofs.whole.rips_of.Given as goal

abbrev pub invariant-loop-net : goal.invariant-loop-net
invariant-loop-net l = (n : ℕ) → entry_of l.rips n ≡ option_map (λ (own : NetState). own.rips) (slice_get (take l.net l.state.nets) n)
