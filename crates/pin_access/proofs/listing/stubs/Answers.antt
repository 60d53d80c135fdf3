use Rattle.std.proofs.Common.{◌≡◌, ◌↔◌, ◌+◌, ◌-◌, ◌<◌, ◌++◌, [], ◌∷◌, length, map, take, drop, get_or, slice_get, Some, Contains, ap, arith}
use Rattle.std.proofs.lemmas.Option.{slice_get-get_or}
use Rattle.rt_base.specs.declared.walk.Vertex.{Vertex}
use Rattle.track_graph.specs.Entries.{no_metal}
use Rattle.track_graph.specs.Metal.{Metal}
use Rattle.pin_access.specs.EntryOrder.{system_of, stub_entry}
use Rattle.pin_access.specs.Nearby.{IsNearMetal}
use Rattle.pin_access.proofs.EntryLemmas.{no_stub_yet, stubs_of_all, stubs_more, stubs_more_ordered, single_part, any_single}
use Rattle.pin_access.proofs.listing.stubs.Goals as goal

pub loop-k-init : goal.loop-k-init
loop-k-init c = record {
  exact = λ e. rw c.new-entries.ensures.items (no_stub_yet (system_of c.args.tech.now c.args.tracks.now c.args.die) c.args.pin c.args.rects.now e);
  ordered = λ i j d lt within. absurd (omega (arith, ap length c.new-entries.ensures.items));
}

pub loop-k-preserved : goal.loop-k-preserved
loop-k-preserved c =
    let g = system_of c.args.tech.now c.args.tracks.now c.args.die in
    let k = c.loop-k.k in
    let rects = c.args.rects.now in
    let within : k < length rects = omega arith in
    let m : Metal = get_or rects k no_metal in
    let at : slice_get rects k ≡ Some m = slice_get-get_or rects k no_metal within in
    let one : take (k + 1 - k) (drop k rects) ≡ m ∷ [] = single_part rects k no_metal within in
    let exact : (v : Vertex) → Contains c.in_ok-near.near.items v ↔ IsNearMetal g 2 m v = λ v.
    let h = rw one at (c.in_ok-near.ensures.exact v) in
    let s = any_single (λ (x : Metal). IsNearMetal g 2 x v) m in
    (λ a. s.0 (h.0 a), λ b. h.1 (s.1 b)) in
    let is : c.add_stubs.new.entries.items ≡ c.loop-k.entries.items ++ map (stub_entry c.args.pin k) c.in_ok-near.near.items = rw c.as_slice.ensures.value at c.in_ok-add_stubs.ensures in
    record {
      exact = stubs_more g c.args.pin rects k m c.in_ok-near.near.items c.loop-k.entries.items c.add_stubs.new.entries.items at exact c.loop-k.invariant.exact is;
      ordered = stubs_more_ordered g c.args.pin rects k c.in_ok-near.near.items c.loop-k.entries.items c.add_stubs.new.entries.items c.in_ok-near.ensures.ordered c.loop-k.invariant.exact c.loop-k.invariant.ordered is;
    }

pub returns-clause-exact : goal.returns-clause-exact
returns-clause-exact c = λ e. stubs_of_all (system_of c.args.tech.now c.args.tracks.now c.args.die) c.args.pin c.args.rects.now c.loop-k.k c.loop-k.entries.items e (omega arith) (c.loop-k.invariant.exact e)
