use Rattle.std.proofs.Common.{◌≡◌, List, map, Contains, All, sym, subst, ◌∙◌}
use Rattle.future_cost.specs.Laws.{IsNear}
use Rattle.rt_base.specs.declared.walk.Vertex.{Vertex}
use Rattle.least_walk.specs.declared.graph.Stop.{Stop}
use Rattle.std.proofs.lemmas.List.Elements.{All-map}
use Rattle.plain_route.proofs.VertexLemmas.{in_map}
use Rattle.plain_route.proofs.TurnLemmas.{no_turns}
use Rattle.plain_route.proofs.bounds.bound_to.Goals as goal

pub returns : goal.returns
returns c =
    let f : Stop → Vertex = λ s. s.entry.vertex in
    let same : map f c.args.stops.now ≡ c.deref.result.now = sym (c.deref.ensures.value ∙ c.in_ok-vertices.ensures) in
    let listed : (s : Stop) → Contains c.args.stops.now s → Contains c.deref.result.now (f s) = λ s h. subst (λ (vs : List Vertex). Contains vs (f s)) same (in_map f c.args.stops.now s h) in
    record {
      zero = λ s h. record {
        zero = c.new.ensures.zero (f s) (listed s h);
        turned = λ horizontal. no_turns c.deref.result.now c.new.result horizontal (f s) c.new.ensures.hull (listed s h);
      };
      fair = record {
        falls = c.new.ensures.falls;
        small = c.new.ensures.small (subst (All IsNear) same (All-map IsNear f c.args.stops.now c.requires.near)) c.requires.via;
        via_is = c.new.ensures.via;
      };
    }
