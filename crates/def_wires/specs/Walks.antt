-- The rectangles of a path as they are made, step by step.
use Rattle.std.specs.Prelude.{ℤ, pos, Option, None, ◌≡◌}
use Rattle.rt_base.specs.declared.tech.Tech.{Tech}
use Rattle.def_wires.specs.declared.wiring.WireStep.{WireStep}
use Rattle.def_wires.specs.declared.wiring.WireStep.TheVariants.{Start, Go, Via as Through, Patch}
use Rattle.def_wires.specs.declared.wiring.Spot.{Spot}
use Rattle.def_wires.specs.Meaning.{beyond, joined_by, rects_of_via}

-- where a path stands behind a step
abbrev pub spot_after : Tech → Spot → WireStep → Spot
spot_after tech at (Start layer point ext) = record { layer = layer; point = point; ext = ext }
spot_after tech at (Go point ext) = record { layer = at.layer; point = point; ext = ext }
spot_after tech at (Through v o) = record { layer = beyond (joined_by tech (rects_of_via tech v)) at.layer; point = at.point; ext = at.ext }
spot_after tech at (Patch r) = at

-- where a path stands before its first step
abbrev pub nowhere : Spot
nowhere = record { layer = record { 0 = 0 }; point = record { x = pos 0; y = pos 0 }; ext = None }
