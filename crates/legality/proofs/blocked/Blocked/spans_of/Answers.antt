use Rattle.std.proofs.Common.{◌≡◌, ◌∙◌, ℤ, ◌&&◌, true, List, Vec, Global, w64, ap, subst}
use Rattle.std.specs.List.{list_any}
use Rattle.std.proofs.lemmas.Int.{to_z-of_z}
use Rattle.std.proofs.lemmas.Result.{IfOk-weaker}
use Rattle.rt_base.specs.declared.geometry.Span.{Span}
use Rattle.regions.specs.Spans.{InSpans, AreSpansOf}
use Rattle.regions.proofs.SpanLemmas.{spans_same}
use Rattle.legality.specs.Found.{Adds}
use Rattle.legality.specs.Rows.{RowOf, all_kept}
use Rattle.legality.specs.Rules.{Kept, kept_forbids}
use Rattle.legality.proofs.FoundLemmas.{from_nothing}
use Rattle.legality.proofs.blocked.Blocked.spans_of.Goals as goal

pub returns : goal.returns
returns g c =
    let test = λ (at : ℤ) (l : List Kept) (z : ℤ). list_any (λ (k : Kept). g.T.ShapeTest.verdict c.args.test.now k.shape && kept_forbids c.args.level at z k) l in
    let found = c.forbidden_in.new.found.items in
    let was : Adds (test c.args.line (all_kept c.as_slice.result.now)) c.new-found.result.items found = subst (λ (at : ℤ). Adds (test at (all_kept c.as_slice.result.now)) c.new-found.result.items found) (to_z-of_z w64 c.args.line c.ranges.line) c.in_ok-forbidden_in.ensures in
    let same : all_kept c.as_slice.result.now ≡ c.args.self.now = ap (λ (l : List RowOf). all_kept l) c.as_slice.ensures.value ∙ c.self.view_is in
    let is : Adds (test c.args.line c.args.self.now) c.new-found.result.items found = subst (λ (l : List Kept). Adds (test c.args.line l) c.new-found.result.items found) same was in
    IfOk-weaker c.maximal_spans.result (λ (v : Vec Span Global). AreSpansOf (InSpans found) v.items) (λ (v : Vec Span Global). AreSpansOf (λ z. test c.args.line c.args.self.now z ≡ true) v.items)
    (λ v h. spans_same (InSpans found) (λ z. test c.args.line c.args.self.now z ≡ true) v.items (from_nothing (test c.args.line c.args.self.now) c.new-found.result.items found c.new-found.ensures.items is) h)
    c.maximal_spans.ensures
