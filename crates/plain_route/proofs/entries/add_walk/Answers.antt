use Rattle.std.proofs.Common.{◌++◌, ◌∷◌, [], List, sym, ap, ◌∙◌}
use Rattle.std.proofs.lemmas.List.{append_assoc}
use Rattle.std.proofs.lemmas.Result.{on_ok_weaker}
use Rattle.rt_base.specs.declared.walk.Edge.{Edge}
use Rattle.rt_base.specs.declared.walk.Entry.{Entry}
use Rattle.plain_route.specs.Stops.{ends_of, on_wire}
use Rattle.plain_route.proofs.EntryLists.{entries_on-path}
use Rattle.plain_route.proofs.entries.add_walk.Goals as goal

pub returns : goal.returns
returns c =
    let w = c.args.walk.now in
    on_ok_weaker c.add_ends.result
    (λ e. e ∙ ap (λ (es : List Edge). c.push.new.self ++ ends_of es) c.as_slice.ensures
    ∙ ap (λ (xs : List Entry). xs ++ ends_of w.edges) (c.in_ok-push.ensures.ok ∙ ap (λ (x : Entry). c.args.entries.now ++ x ∷ []) c.on_wire.ensures)
    ∙ append_assoc c.args.entries.now (on_wire w.start.vertex ∷ []) (ends_of w.edges)
    ∙ ap (λ (xs : List Entry). c.args.entries.now ++ xs) (sym (entries_on-path w.start.vertex w.edges)))
    c.add_ends.ensures
