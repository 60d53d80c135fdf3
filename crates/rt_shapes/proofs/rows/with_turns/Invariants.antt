use Rattle.std.proofs.Common.{◌≡◌, ◌++◌, map, take}
use Rattle.rt_base.specs.declared.geometry.Point.{Point}
use Rattle.rt_shapes.proofs.rows.with_turns.Given as goal

abbrev pub invariant-loop-turn : goal.invariant-loop-turn
invariant-loop-turn l = l.all.items ≡ l.xs ++ map (λ (p : Point). p.x) (take l.turn-index l.turns)
