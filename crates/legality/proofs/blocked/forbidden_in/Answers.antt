use Rattle.std.proofs.Common.{ℤ, ◌&&◌, to_z, of_z, w64, subst}
use Rattle.std.specs.List.{list_any}
use Rattle.std.proofs.lemmas.Int.{to_z-of_z}
use Rattle.legality.specs.Found.{Adds}
use Rattle.legality.specs.Rows.{RowOf, all_kept}
use Rattle.legality.specs.Rules.{Kept, kept_forbids, rule_forbids}
use Rattle.legality.proofs.FoundLemmas.{adds_same, adds_more, adds_all}
use Rattle.legality.proofs.RowLemmas.{rows_any}
use Rattle.legality.proofs.blocked.forbidden_in.Goals as goal

pub loop-row-preserved : goal.loop-row-preserved
loop-row-preserved g c =
    let at = to_z w64 (of_z w64 c.args.line) in
    adds_more (λ (r : RowOf) (z : ℤ). list_any (λ s. g.T.ShapeTest.verdict c.args.test.now s && rule_forbids r.rule c.args.level at z s.rect) r.shapes) c.args.rows.now c.loop-row.row-index c.row-item.result c.args.found.now.items c.loop-row.found.items c.forbidden_into.new.found.items
    c.loop-row-test.true c.row-item.is c.loop-row.invariant c.in_ok-forbidden_into.ensures

pub returns : goal.returns
returns g c =
    let test = λ (at : ℤ) (r : RowOf) (z : ℤ). list_any (λ s. g.T.ShapeTest.verdict c.args.test.now s && rule_forbids r.rule c.args.level at z s.rect) r.shapes in
    let at = to_z w64 (of_z w64 c.args.line) in
    adds_same (λ z. list_any (λ r. test c.args.line r z) c.args.rows.now) (λ z. list_any (λ (k : Kept). g.T.ShapeTest.verdict c.args.test.now k.shape && kept_forbids c.args.level c.args.line z k) (all_kept c.args.rows.now)) c.args.found.now.items c.loop-row.found.items
    (λ z. rows_any (g.T.ShapeTest.verdict c.args.test.now) c.args.level c.args.line z c.args.rows.now)
    (subst (λ (l : ℤ). Adds (λ z. list_any (λ r. test l r z) c.args.rows.now) c.args.found.now.items c.loop-row.found.items) (to_z-of_z w64 c.args.line c.ranges.line)
    (adds_all (test at) c.args.rows.now c.loop-row.row-index c.args.found.now.items c.loop-row.found.items c.loop-row-test.false c.loop-row.invariant))
