use Rattle.std.proofs.Common.{◌≡◌, ℕ, ◌+◌, ◌*◌, ◌&&◌, List, [], Bool, false, get_or, sym, arith, below_more}
use Rattle.std.specs.List.{list_any}
use Rattle.shape_grid.specs.Stores.{is_touching}
use Rattle.rt_base.specs.declared.tech.Shape.{Shape}
use Rattle.shape_grid.proofs.Near.{other_layer, none_near}
use Rattle.shape_grid.proofs.table.Table.any_near.Goals as goal

at_place : (p : Shape → Bool) (bs cs : List (List Shape)) (column at side height row : ℕ) → at ≡ column → height ≡ side → cs ≡ bs → list_any p (get_or cs (at * height + row) []) ≡ false → list_any p (get_or bs (column * side + row) []) ≡ false
at_place p bs cs column at side height row one two three none = rw (← one, ← two, ← three) none

pub returns-then-self-layer : goal.returns-then-self-layer
returns-then-self-layer g c =
    rw (← c.self.view_is) (sym (other_layer _ _ _ _ c.args.layer c.args.rect.now (g.T.ShapeTest.verdict c.args.test.now) c.self.invariant c.if-self-layer.true))

pub loop-i-preserved : goal.loop-i-preserved
loop-i-preserved g c =
    below_more _ _ c.loop-i.invariant (λ j less.
    (at_place (λ s. is_touching c.args.layer c.args.rect.now s && g.T.ShapeTest.verdict c.args.test.now s) c.self.inside.buckets.items c.as_slice.result.now _ c.wrap-column.result _ c.power-height.result _ c.wrap-column.ensures.value c.power-height.ensures.value c.as_slice.ensures.value (c.if-any_in_column.ensures.none j less)))

pub returns : goal.returns
returns g c =
    rw (← c.self.view_is) (sym (
    none_near c.self.inside.size _ _ _ c.args.layer c.args.rect.now (g.T.ShapeTest.verdict c.args.test.now) c.reach_over-side.result c.reach_over-up.result c.self.invariant (
    rw (← c.across.ensures.first, ← c.across.ensures.last) c.reach_over-side.ensures.covers
    ) (
    rw (← c.upward.ensures.first, ← c.upward.ensures.last) c.reach_over-up.ensures.covers
    ) (λ i less. c.loop-i.invariant i (omega arith))
    ))
