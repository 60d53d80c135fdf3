use Rattle.std.proofs.Common.{◌≡◌, ◌++◌, ◌+◌, List, drop, sym, subst, ◌∙◌}
use Rattle.std.proofs.lemmas.List.{append-nil}
use Rattle.rt_base.specs.declared.walk.Entry.{Entry}
use Rattle.rt_base.specs.declared.walk.Walk.{Walk}
use Rattle.plain_route.specs.Stops.{wire_entries}
use Rattle.plain_route.proofs.EntryLists.{wire_entries-more}
use Rattle.plain_route.proofs.EntryLists.{drop_past}
use Rattle.plain_route.proofs.entries.add_walks.Goals as goal

pub loop-walk-preserved : goal.loop-walk-preserved
loop-walk-preserved c = subst (λ (xs : List Entry). xs ++ wire_entries (drop (c.loop-walk.walk-index + 1) c.args.walks.now) ≡ c.args.entries.now ++ wire_entries c.args.walks.now) (sym c.in_ok-add_walk.ensures)
    (wire_entries-more c.args.walks.now c.loop-walk.walk-index c.walk-item.result c.loop-walk.entries (c.args.entries.now ++ wire_entries c.args.walks.now) c.loop-walk-test.true (sym c.walk-item.is) c.loop-walk.invariant)

pub returns : goal.returns
returns c = sym (append-nil c.loop-walk.entries) ∙ subst (λ (ws : List Walk). c.loop-walk.entries ++ wire_entries ws ≡ c.args.entries.now ++ wire_entries c.args.walks.now) (drop_past c.loop-walk.walk-index c.args.walks.now c.loop-walk-test.false) c.loop-walk.invariant
