use Rattle.std.proofs.Common.{◌+◌, ℤ, List, take, sym, subst, ◌∙◌}
use Rattle.std.specs.List.{AllZip}
use Rattle.rt_base.specs.declared.tech.Layer.{Layer}
use Rattle.build.specs.Lines.{IsLevel}
use Rattle.build.specs.TrackLines.{routing_layers}
use Rattle.build.proofs.Steps.{kept_more, kept_skip}
use Rattle.build.proofs.level_tracks.lines_of_levels.Goals.{then-layer+in_ok-level_lines+in_ok-push, else-layer}
use Rattle.build.proofs.level_tracks.lines_of_levels.Goals as goal

pub loop-layer-preserved : goal.loop-layer-preserved
loop-layer-preserved c =
    let layers = c.args.layers.now in
    let i = c.loop-layer.layer-index in
    elim c.if-layer.branch [
      | then-layer+in_ok-level_lines+in_ok-push w ↦
          subst (λ (ys : List (List ℤ)). AllZip (IsLevel c.args.rows.now) (routing_layers (take (i + 1) layers)) ys) (sym (w.levels-is ∙ w.in_ok-push.ensures.ok))
          (kept_more (IsLevel c.args.rows.now) (λ (l : Layer). l.routing) layers i c.layer-item.result c.loop-layer.levels w.in_ok-level_lines.field-0 c.loop-layer-test.true c.layer-item.is w.if-layer.true c.loop-layer.invariant w.in_ok-level_lines.ensures)
      | else-layer w ↦
          subst (λ (ys : List (List ℤ)). AllZip (IsLevel c.args.rows.now) (routing_layers (take (i + 1) layers)) ys) (sym w.levels-is)
          (subst (λ (ls : List Layer). AllZip (IsLevel c.args.rows.now) ls c.loop-layer.levels) (sym (kept_skip (λ (l : Layer). l.routing) layers i c.layer-item.result c.loop-layer-test.true c.layer-item.is w.if-layer.false)) c.loop-layer.invariant)
    ]
