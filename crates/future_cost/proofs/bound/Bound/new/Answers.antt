use Rattle.std.proofs.Common.{◌≡◌, ◌∙◌, List, length, ap, refl, pos, slice_index_or, take}
use Rattle.std.proofs.lemmas.List.{take_all}
use Rattle.std.proofs.lemmas.List.Elements.{Contains-get_or}
use Rattle.rt_base.specs.declared.geometry.Span.{Span}
use Rattle.rt_base.specs.declared.walk.Vertex.{Vertex}
use Rattle.future_cost.specs.Under.{IsHullOf}
use Rattle.future_cost.proofs.Hulls.{IsHullSoFar, hull_step, hull_whole, hull_first}
use Rattle.future_cost.proofs.Falling.{falls, arenas, zero_at, small_at}
use Rattle.future_cost.proofs.bound.Bound.new.Goals as goal

pub targets-init : goal.targets-init
targets-init c = record {
  hull = hull_first c.args.targets.now (slice_index_or c.args.targets.now 0 (record { level = 0; point = record { x = pos 0; y = pos 0 } })) _
      (Contains-get_or c.args.targets.now 0 _ c.requires)
      (ap (λ (s : Span). s.lo) c.spans.ensures.x) (ap (λ (s : Span). s.hi) c.spans.ensures.x) (ap (λ (s : Span). s.lo) c.spans.ensures.y) (ap (λ (s : Span). s.hi) c.spans.ensures.y) refl refl;
  via = refl;
}

pub targets-preserved : goal.targets-preserved
targets-preserved c = record {
  hull = hull_step c.args.targets.now c.targets.target-index _ c.targets.bound _ c.targets-test.true c.targets.invariant.hull c.widened-bound.ensures;
  via = ap (λ b. b.via) c.widened-bound.ensures ∙ c.targets.invariant.via;
}

pub returns : goal.returns
returns c =
    let whole : IsHullOf c.args.targets.now c.targets.bound = hull_whole _ _ (rw (take_all c.targets.target-index c.args.targets.now c.targets-test.false) at c.targets.invariant.hull) in
    record {
      hull = whole;
      via = c.targets.invariant.via;
      zero = zero_at _ _ whole;
      falls = falls _ _ c.targets.invariant.via;
      arenas = arenas _ _ c.targets.invariant.via;
      small = small_at _ _ _ c.targets.invariant.via whole;
    }
