use Rattle.std.proofs.Common.{◌≡◌, ◌++◌, map, take}
use Rattle.def_wires.specs.Meaning.{via_metal}
use Rattle.def_wires.proofs.rectangles.add_via.Given as goal

abbrev pub invariant-rects : goal.invariant-rects
invariant-rects l = l.metal ≡ l.initial.metal ++ map (via_metal l.orient l.at) (take l.layer-index l.rects)
