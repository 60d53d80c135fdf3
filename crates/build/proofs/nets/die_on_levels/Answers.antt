use Rattle.std.proofs.Common.{◌≡◌, ◌∙◌, ℕ, ◌+◌, List, [], ◌∷◌, ◌++◌, length, map, take, sym, ap, arith}
use Rattle.std.specs.List.{enumerate_from}
use Rattle.std.proofs.lemmas.List.{map-append, length_push}
use Rattle.rt_base.specs.Sides.{Sides}
use Rattle.rt_base.specs.declared.tech.Layer.{Layer}
use Rattle.build.specs.TrackLines.{routing_layers}
use Rattle.cells.proofs.Lists.{enumerate_from-more}
use Rattle.build.proofs.Steps.{kept_count, kept_next, kept_skip}
use Rattle.build.proofs.nets.die_on_levels.Goals.{then-layer+in_ok-push, else-layer}
use Rattle.build.proofs.nets.die_on_levels.Goals as goal

-- the die on one level more
guide_more : (die : Sides) (before : List Layer) (l : Layer) (level : ℕ) → level ≡ length before → map {B = ℕ × Sides} (λ (x : ℕ × Layer). (x.0, die)) (enumerate_from 0 (before ++ l ∷ [])) ≡ map {B = ℕ × Sides} (λ (x : ℕ × Layer). (x.0, die)) (enumerate_from 0 before) ++ (level, die) ∷ []
guide_more die before l level is =
    ap (map {B = ℕ × Sides} (λ (x : ℕ × Layer). (x.0, die))) (enumerate_from-more 0 before l)
    ∙ map-append {B = ℕ × Sides} (λ (x : ℕ × Layer). (x.0, die)) (enumerate_from 0 before) ((0 + length before, l) ∷ [])
    ∙ ap (λ (n : ℕ). map {B = ℕ × Sides} (λ (x : ℕ × Layer). (x.0, die)) (enumerate_from 0 before) ++ (n, die) ∷ []) (omega (arith, is))

pub overflow_add-level : goal.overflow_add-level
overflow_add-level c =
    omega (arith, kept_count (λ (l : Layer). l.routing) c.args.layers.now c.loop-layer.layer-index c.layer-item.result c.loop-layer-test.true c.layer-item.is c.if-layer.true, c.loop-layer.invariant.1, c.requires)

pub loop-layer-preserved : goal.loop-layer-preserved
loop-layer-preserved c =
    let layers = c.args.layers.now in
    let i = c.loop-layer.layer-index in
    let die = c.args.die in
    let before = routing_layers (take i layers) in
    elim c.if-layer.branch [
      | then-layer+in_ok-push w ↦
          let kept = kept_next (λ (l : Layer). l.routing) layers i c.layer-item.result c.loop-layer-test.true c.layer-item.is w.if-layer.true in (
            w.boxes-is
                ∙ w.in_ok-push.ensures.ok
                ∙ ap (λ (bs : List (ℕ × Sides)). bs ++ (c.loop-layer.level, die) ∷ []) c.loop-layer.invariant.0
                ∙ sym (ap (λ (ls : List Layer). map {B = ℕ × Sides} (λ (x : ℕ × Layer). (x.0, die)) (enumerate_from 0 ls)) kept ∙ guide_more die before c.layer-item.result c.loop-layer.level c.loop-layer.invariant.1),
            omega (arith, w.level-is, c.loop-layer.invariant.1, ap length kept, length_push before c.layer-item.result),
          )
      | else-layer w ↦
          let kept = kept_skip (λ (l : Layer). l.routing) layers i c.layer-item.result c.loop-layer-test.true c.layer-item.is w.if-layer.false in (
            w.boxes-is ∙ c.loop-layer.invariant.0 ∙ sym (ap (λ (ls : List Layer). map {B = ℕ × Sides} (λ (x : ℕ × Layer). (x.0, die)) (enumerate_from 0 ls)) kept),
            w.level-is ∙ c.loop-layer.invariant.1 ∙ sym (ap length kept),
          )
    ]
