use Rattle.std.proofs.Common.{◌≡◌, ◌++◌, drop}
use Rattle.def_wires.specs.Sound.{IsSpot}
use Rattle.def_wires.specs.Meaning.{path_metal}
use Rattle.def_wires.proofs.Drawing.{metal_from}
use Rattle.def_wires.proofs.rectangles.add_path.Given as goal

abbrev pub invariant-steps : goal.invariant-steps
invariant-steps l = record {
  same : l.metal ++ metal_from l.tech l.path.width l.spot (drop l.step-index l.path.steps) ≡ l.initial.metal ++ path_metal l.tech l.path;
  spot : IsSpot l.spot;
}
