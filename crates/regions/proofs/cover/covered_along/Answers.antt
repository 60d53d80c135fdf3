use Rattle.std.proofs.Common.{ℕ, ◌^◌, All, List, Vec, Global, sym, subst}
use Rattle.std.proofs.lemmas.Result.{IfOk-weaker}
use Rattle.rt_base.specs.Ranges.{AreSidesWithin}
use Rattle.rt_base.specs.Sides.{Sides}
use Rattle.rt_base.specs.declared.geometry.Span.{Span}
use Rattle.track_graph.specs.Guide.{InGuide}
use Rattle.track_graph.specs.Searches.{guide_of}
use Rattle.regions.specs.Spans.{InSpans, AreSpansOf}
use Rattle.regions.specs.Covered.{point_at}
use Rattle.regions.proofs.CoverLemmas.{guide_sides, parts_small}
use Rattle.regions.proofs.SpanLemmas.{spans_same}
use Rattle.regions.proofs.cover.covered_along.Goals as goal

pub maximal_spans-requires-clause-small : goal.maximal_spans-requires-clause-small
maximal_spans-requires-clause-small c =
    parts_small c.args.line c.args.level c.guide_of.result.now c.in_ok-parts.parts.items
    (subst (λ (boxes : List (ℕ × Sides)). All (λ (box : ℕ × Sides). AreSidesWithin (2 ^ 32) box.1) boxes) (sym c.guide_of.ensures) (guide_sides c.args.design.now c.args.net c.requires)) c.in_ok-parts.ensures.full c.in_ok-parts.ensures.exact

pub returns : goal.returns
returns c =
    let parts = c.in_ok-parts.parts.items in
    let boxes = guide_of c.args.design.now c.args.net in
    IfOk-weaker c.maximal_spans.result (λ (v : Vec Span Global). AreSpansOf (InSpans parts) v.items) (λ (v : Vec Span Global). AreSpansOf (λ z. InGuide boxes c.args.level (point_at c.args.line z)) v.items)
    (λ v h.
    spans_same (InSpans parts) (λ z. InGuide boxes c.args.level (point_at c.args.line z)) v.items
    (λ z. subst (λ (bs : List (ℕ × Sides)). (let P : Type 0 = InSpans parts z in let Q : Type 0 = InGuide bs c.args.level (point_at c.args.line z) in (P → Q) × (Q → P))) c.guide_of.ensures (c.in_ok-parts.ensures.exact z)) h)
    c.maximal_spans.ensures
