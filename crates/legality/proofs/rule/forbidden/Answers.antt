use Rattle.std.proofs.Common.{◌≡◌, ◌∙◌, to_z, of_z, w64, ap, sym}
use Rattle.std.proofs.lemmas.Int.{to_z-of_z}
use Rattle.rt_base.specs.declared.tech.Shape.{Shape}
use Rattle.track_graph.specs.Levels.{layer_no}
use Rattle.legality.specs.declared.rule.WireRule.{WireRule}
use Rattle.legality.specs.Rules.{rule_at, wire_mover}
use Rattle.legality.proofs.RuleLemmas.{some_forbidden, none_forbidden}
use Rattle.legality.proofs.rule.forbidden.Goals as goal

-- the layer of the level is the shape's
on_layer : (c : goal.After-forbidden) → layer_no c.args.tech.now c.args.level ≡ c.args.shape.now.layer.0
on_layer c = ap (λ (s : Shape). s.layer.0) (sym c.square_of.ensures) ∙ c.if-square_of-shape.false

rectangle : (c : goal.After-forbidden) → c.mover.result ≡ wire_mover (rule_at c.args.tech.now c.args.shape.now c.args.level) (to_z w64 (of_z w64 c.args.line))
rectangle c = c.mover.ensures ∙ ap (λ (r : WireRule). wire_mover r (to_z w64 (of_z w64 c.args.line))) c.rule_at.ensures.rule

pub returns-clause-some : goal.returns-clause-some
returns-clause-some c =
    some_forbidden c.args.tech.now c.args.shape.now c.args.level c.args.line (to_z w64 (of_z w64 c.args.line)) c.mover.result c.forbidden.result (on_layer c) (to_z-of_z w64 c.args.line c.ranges.line) (rectangle c) c.forbidden.ensures.some

pub returns-clause-none : goal.returns-clause-none
returns-clause-none c =
    none_forbidden c.args.tech.now c.args.shape.now c.args.level c.args.line (to_z w64 (of_z w64 c.args.line)) c.mover.result c.forbidden.result (on_layer c) (to_z-of_z w64 c.args.line c.ranges.line) (rectangle c) c.forbidden.ensures.none
