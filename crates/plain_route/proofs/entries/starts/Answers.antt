use Rattle.std.proofs.Common.{◌++◌, Bool, true, List, ap, ◌∙◌}
use Rattle.rt_base.specs.declared.walk.Entry.{Entry}
use Rattle.rt_base.specs.declared.walk.Walk.{Walk}
use Rattle.track_graph.specs.declared.design.Pin.{Pin}
use Rattle.plain_route.specs.Stops.{pin_entries, wire_entries}
use Rattle.plain_route.proofs.EntryLists.{starts_are}
use Rattle.plain_route.proofs.entries.starts.Goals as goal

pub returns : goal.returns
returns c =
    let own = c.args.own.now in
    starts_are c.args.design.now own c.args.net c.add_walks.new.entries c.requires
    (c.in_ok-add_walks.ensures ∙ ap (λ (ws : List Walk). c.in_ok-entries.entries ++ wire_entries ws) c.as_slice-2.ensures
    ∙ ap (λ (es : List Entry). es ++ wire_entries own.walks)
    (c.in_ok-entries.ensures ∙ ap (λ (js : List Bool). pin_entries true js c.pins_of.result.now) c.as_slice.ensures ∙ ap (λ (ps : List Pin). pin_entries true own.joined ps) c.pins_of.ensures))
