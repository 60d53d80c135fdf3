use Rattle.std.proofs.Common.{◌≡◌, take}
use Rattle.std.specs.List.{flat_map}
use Rattle.def_wires.specs.Meaning.{path_metal}
use Rattle.def_wires.proofs.rectangles.denote.Given as goal

abbrev pub invariant-paths : goal.invariant-paths
invariant-paths l = l.metal ≡ flat_map (path_metal l.tech) (take l.path-index l.wiring.paths)
