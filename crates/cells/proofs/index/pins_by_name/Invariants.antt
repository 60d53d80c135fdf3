use Rattle.std.proofs.Common.{ℕ, List, take}
use Rattle.rt_base.specs.Sides.{Sides}
use Rattle.rt_base.specs.declared.tech.LayerNo.{LayerNo}
use Rattle.cells.specs.Firsts.{ArePlaces}
use Rattle.cells.proofs.index.pins_by_name.Given as goal

abbrev pub invariant-loop-place : goal.invariant-loop-place
invariant-loop-place l = ArePlaces (λ (p : List ℕ × List (LayerNo × Sides)). p.0) (take l.place l.pins) l.places
