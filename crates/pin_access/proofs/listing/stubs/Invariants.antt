use Rattle.std.proofs.Common.{◌↔◌, AllPairs, Contains}
use Rattle.rt_base.specs.declared.walk.Entry.{Entry}
use Rattle.pin_access.specs.EntryOrder.{system_of, IsEntryBefore}
use Rattle.pin_access.proofs.EntryLemmas.{IsStubBelow}
use Rattle.pin_access.proofs.listing.stubs.Given as goal

abbrev pub invariant-loop-k : goal.invariant-loop-k
invariant-loop-k l = record {
  exact : (e : Entry) → Contains l.entries.items e ↔ IsStubBelow (system_of l.tech l.tracks l.die) l.pin l.rects l.k e;
  ordered : AllPairs IsEntryBefore l.entries.items;
}
