use Rattle.std.proofs.Common.{to_z, of_z, w64, Vec, Global, subst}
use Rattle.std.proofs.lemmas.Int.{to_z-of_z}
use Rattle.std.proofs.lemmas.Result.{IfOk-weaker}
use Rattle.rt_base.specs.declared.geometry.Span.{Span}
use Rattle.track_graph.specs.Guide.{InGuide}
use Rattle.track_graph.specs.Searches.{guide_of}
use Rattle.regions.specs.declared.cover.Line.{Line}
use Rattle.regions.specs.Spans.{AreSpansOf}
use Rattle.regions.specs.Covered.{IsCovered, point_at}
use Rattle.regions.proofs.CoverLemmas.{line_is}
use Rattle.regions.proofs.cover.covered.Goals as goal

pub returns : goal.returns
returns c =
    let d = c.args.design.now in
    let at = to_z w64 (of_z w64 c.args.line) in
    let line : Line = record { in_x = c.is_level_horizontal.result; at = at } in
    IfOk-weaker c.covered_along.result (λ (v : Vec Span Global). AreSpansOf (λ z. InGuide (guide_of d c.args.net) c.args.level (point_at line z)) v.items) (λ (v : Vec Span Global). AreSpansOf (IsCovered d c.args.net c.args.level c.args.line) v.items)
    (λ v h.
    subst (λ (l : Line). AreSpansOf (λ z. InGuide (guide_of d c.args.net) c.args.level (point_at l z)) v.items)
    (line_is d.tech c.args.level c.args.line c.is_level_horizontal.result at c.is_level_horizontal.ensures (to_z-of_z w64 c.args.line c.ranges.line)) h)
    c.covered_along.ensures
