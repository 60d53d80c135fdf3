use Rattle.std.proofs.Common.{◌≡◌, [], map, sym, ◌∙◌}
use Rattle.pin_access.specs.EntryOrder.{system_of, pin_entry}
use Rattle.pin_access.proofs.EntryLemmas.{entries_inside, entries_outside, pins_ordered, none_from_test, some_from_test}
use Rattle.pin_access.proofs.listing.entries.Goals as goal

pub returns-then-is_empty-clause-exact : goal.returns-then-is_empty-clause-exact
returns-then-is_empty-clause-exact c = λ e.
    let none : c.in_ok-inside.inside.items ≡ [] = sym c.as_slice-vertices.ensures.value ∙ none_from_test c.as_slice-vertices.result.now c.if-is_empty.ensures in
    entries_outside (system_of c.args.tech.now c.args.tracks.now c.args.die) c.args.pin c.args.rects.now c.in_ok-inside.inside.items c.in_ok-entries.entries.items e c.in_ok-inside.ensures.exact none (c.in_ok-entries.ensures.exact e)

pub returns-clause-exact : goal.returns-clause-exact
returns-clause-exact c = λ e.
    let is : c.in_ok-entries-2.entries.items ≡ map (pin_entry c.args.pin) c.in_ok-inside.inside.items = rw c.as_slice-vertices.ensures.value at c.in_ok-entries-2.ensures in
    entries_inside (system_of c.args.tech.now c.args.tracks.now c.args.die) c.args.pin c.args.rects.now c.in_ok-inside.inside.items c.in_ok-entries-2.entries.items e c.in_ok-inside.ensures.rects c.in_ok-inside.ensures.exact (λ none. some_from_test c.as_slice-vertices.result.now c.if-is_empty.ensures (c.as_slice-vertices.ensures.value ∙ none)) is

pub returns-clause-ordered : goal.returns-clause-ordered
returns-clause-ordered c =
    let is : c.in_ok-entries-2.entries.items ≡ map (pin_entry c.args.pin) c.in_ok-inside.inside.items = rw c.as_slice-vertices.ensures.value at c.in_ok-entries-2.ensures in
    pins_ordered c.args.pin c.in_ok-inside.inside.items c.in_ok-entries-2.entries.items c.in_ok-inside.ensures.ordered is
