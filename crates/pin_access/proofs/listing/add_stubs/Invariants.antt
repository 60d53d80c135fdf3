use Rattle.std.proofs.Common.{◌≡◌, ◌++◌, drop, map}
use Rattle.pin_access.specs.EntryOrder.{stub_entry}
use Rattle.pin_access.proofs.listing.add_stubs.Given as goal

abbrev pub invariant-loop-vertex : goal.invariant-loop-vertex
invariant-loop-vertex l = l.entries.items ++ map (stub_entry l.pin l.rect) (drop l.vertex-index l.vertices) ≡ l.initial.entries.items ++ map (stub_entry l.pin l.rect) l.vertices
