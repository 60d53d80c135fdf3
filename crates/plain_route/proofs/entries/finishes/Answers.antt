use Rattle.std.proofs.Common.{◌≡◌, Bool, false, List, ap, ◌∙◌}
use Rattle.std.proofs.lemmas.Result.{IfOk-weaker}
use Rattle.rt_base.specs.declared.walk.Entry.{Entry}
use Rattle.track_graph.specs.declared.design.Pin.{Pin}
use Rattle.track_graph.specs.Searches.{IsFinish}
use Rattle.plain_route.specs.Stops.{pin_entries, AreEntries}
use Rattle.plain_route.proofs.EntryLists.{finishes_are}
use Rattle.plain_route.proofs.entries.finishes.Goals as goal

pub returns : goal.returns
returns c =
    let own = c.args.own.now in
    IfOk-weaker c.pin_entries.result (λ (es : List Entry). es ≡ pin_entries false c.as_slice.result.now c.pins_of.result.now) (AreEntries c.args.design.now c.args.net (IsFinish c.args.design.now c.args.net own))
    (λ es h. finishes_are c.args.design.now own c.args.net es
    (h ∙ ap (λ (js : List Bool). pin_entries false js c.pins_of.result.now) c.as_slice.ensures ∙ ap (λ (ps : List Pin). pin_entries false own.joined ps) c.pins_of.ensures))
    c.pin_entries.ensures
