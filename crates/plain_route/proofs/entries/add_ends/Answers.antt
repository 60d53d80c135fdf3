use Rattle.std.proofs.Common.{◌≡◌, ◌++◌, ◌∷◌, ◌+◌, List, [], drop, get_or, pos, sym, subst, ap, ◌∙◌}
use Rattle.std.proofs.lemmas.List.{append-nil, get_or_default}
use Rattle.rt_base.specs.declared.walk.Edge.{Edge}
use Rattle.rt_base.specs.declared.walk.EdgeKind.TheVariants.{Along}
use Rattle.rt_base.specs.declared.walk.Vertex.{Vertex}
use Rattle.rt_base.specs.declared.walk.Entry.{Entry}
use Rattle.plain_route.specs.Stops.{ends_of, on_wire}
use Rattle.plain_route.proofs.EntryLists.{ends_of-more}
use Rattle.plain_route.proofs.EntryLists.{drop_past}
use Rattle.plain_route.proofs.entries.add_ends.Goals as goal

abbrev no_vertex : Vertex
no_vertex = record { level = 0; point = record { x = pos 0; y = pos 0 } }

pub loop-e-preserved : goal.loop-e-preserved
loop-e-preserved c =
    let i = c.loop-e.e-index in
    let es = c.args.edges.now in
    let e : Edge = get_or es i (record { kind = Along; to = no_vertex }) in
    let is : c.push.new.self ≡ c.loop-e.entries ++ on_wire e.to ∷ [] = c.in_ok-push.ensures.ok ∙ ap (λ (x : Entry). c.loop-e.entries ++ x ∷ []) c.on_wire.ensures in
    subst (λ (xs : List Entry). xs ++ ends_of (drop (i + 1) es) ≡ c.args.entries.now ++ ends_of es) (sym is)
    (ends_of-more es i e c.loop-e.entries (c.args.entries.now ++ ends_of es) c.loop-e-test.true (get_or_default es i e (record { kind = Along; to = no_vertex }) c.loop-e-test.true) c.loop-e.invariant)

pub returns : goal.returns
returns c = sym (append-nil c.loop-e.entries) ∙ subst (λ (es : List Edge). c.loop-e.entries ++ ends_of es ≡ c.args.entries.now ++ ends_of c.args.edges.now) (drop_past c.loop-e.e-index c.args.edges.now c.loop-e-test.false) c.loop-e.invariant
