use Rattle.std.proofs.Common.{◌^◌, subst, sym, All}
use Rattle.rt_base.specs.Ranges.{AreSidesWithin}
use Rattle.def_text.proofs.polygons.add_polygon.Goals as goal

pub add_rects-requires-clause-rects : goal.add_rects-requires-clause-rects
add_rects-requires-clause-rects c = subst (λ rects. All (AreSidesWithin (2 ^ 30)) rects) (sym c.as_slice.ensures.value) (c.in_ok-rects.ensures.within (2 ^ 30) c.requires.points)
