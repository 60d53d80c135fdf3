use Rattle.std.proofs.Common.{◌∙◌, ◌&&◌, Bool, List, to_z, of_z, w64, refl, ap}
use Rattle.std.specs.List.{list_any}
use Rattle.std.proofs.lemmas.Int.{to_z-of_z}
use Rattle.rt_base.specs.declared.tech.Shape.{Shape}
use Rattle.legality.specs.Forbidden.{is_near_at}
use Rattle.legality.specs.Rows.{in_bands}
use Rattle.legality.specs.Rules.{rule_forbids}
use Rattle.legality.proofs.FoundLemmas.{adds_none, on_ok_same, any_same}
use Rattle.legality.proofs.RowLemmas.{rule_none, no_rule, other_rule, this_rule}
use Rattle.legality.proofs.row.Row.forbidden_into.Goals as goal

pub returns-then-rule-level : goal.returns-then-rule-level
returns-then-rule-level g c =
    let o = c.self.inside.rule in
    let shapes = in_bands c.self.inside.bands.items in
    let test = g.T.ShapeTest.verdict c.args.test.now in
    rw (← c.self.view_is)
    (adds_none (λ z. list_any (λ s. test s && rule_forbids o c.args.level c.args.line z s.rect) shapes) c.args.found.now.items c.args.found.now.items refl
    (rule_none test o c.args.level c.args.line shapes (λ z rect. other_rule o c.in-Some.rule c.args.level c.args.line z rect c.in-Some.is c.if-rule-level.true)))

pub returns-in-None : goal.returns-in-None
returns-in-None g c =
    let o = c.self.inside.rule in
    let shapes = in_bands c.self.inside.bands.items in
    let test = g.T.ShapeTest.verdict c.args.test.now in
    rw (← c.self.view_is)
    (adds_none (λ z. list_any (λ s. test s && rule_forbids o c.args.level c.args.line z s.rect) shapes) c.args.found.now.items c.args.found.now.items refl
    (rule_none test o c.args.level c.args.line shapes (λ z rect. no_rule o c.args.level c.args.line z rect c.in-None.is)))

pub returns-else-rule-level : goal.returns-else-rule-level
returns-else-rule-level g c =
    let o = c.self.inside.rule in
    let shapes = in_bands c.self.inside.bands.items in
    let test = g.T.ShapeTest.verdict c.args.test.now in
    rw (← c.self.view_is)
    (on_ok_same c.forbidden_in.result (λ z. list_any (λ s. test s && is_near_at c.mover.result s.rect z) (in_bands c.as_slice.result.now)) (λ z. list_any (λ s. test s && rule_forbids o c.args.level c.args.line z s.rect) shapes) c.args.found.now.items c.forbidden_in.new.found.items
    (λ z.
    ap (λ (l : List (List Shape)). list_any (λ s. test s && is_near_at c.mover.result s.rect z) (in_bands l)) c.as_slice.ensures.value
    ∙ any_same (λ (s : Shape). test s && is_near_at c.mover.result s.rect z) (λ (s : Shape). test s && rule_forbids o c.args.level c.args.line z s.rect) shapes
    (λ s. ap (λ (b : Bool). test s && b) (this_rule o c.in-Some.rule c.mover.result c.args.level c.args.line (to_z w64 (of_z w64 c.args.line)) z s.rect c.in-Some.is c.if-rule-level.false (to_z-of_z w64 c.args.line c.ranges.line) c.mover.ensures)))
    c.forbidden_in.ensures)
