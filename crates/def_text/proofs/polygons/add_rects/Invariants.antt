use Rattle.std.proofs.Common.{◌≡◌, ◌++◌, map, take, All}
use Rattle.rt_base.specs.Sides.{Sides}
use Rattle.def_text.specs.Defs.{IsMetal}
use Rattle.def_text.proofs.polygons.add_rects.Given as goal

abbrev pub invariant-rects : goal.invariant-rects
invariant-rects l = record { value : l.metal ≡ l.initial.metal ++ map (λ (sides : Sides). (l.layer, sides)) (take l.rect-index l.rects); sound : All IsMetal l.metal }
