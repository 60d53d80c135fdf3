use Rattle.std.proofs.Common.{◌≡◌, ◌++◌, drop, map}
use Rattle.pin_access.specs.EntryOrder.{pin_entry}
use Rattle.pin_access.proofs.listing.pin_entries.Given as goal

abbrev pub invariant-loop-vertex : goal.invariant-loop-vertex
invariant-loop-vertex l = l.entries.items ++ map (pin_entry l.pin) (drop l.vertex-index l.vertices) ≡ map (pin_entry l.pin) l.vertices
