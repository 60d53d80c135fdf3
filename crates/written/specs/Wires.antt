-- The wiring that written strokes say, and their rectangles.
use Rattle.std.specs.Prelude.{ℕ, List, [], ◌∷◌, map, flat_map, None, ◌==◌, if◌then◌else◌}
use Rattle.std.specs.List.{list_any}
use Rattle.rt_base.specs.declared.orient.Orient.TheVariants.{N}
use Rattle.rt_base.specs.declared.tech.Layer.{Layer}
use Rattle.rt_base.specs.declared.tech.Tech.{Tech}
use Rattle.track_graph.specs.declared.history.Stroke.{Stroke}
use Rattle.track_graph.specs.declared.history.Stroke.TheVariants.{Run, Via as ViaAt}
use Rattle.track_graph.specs.Levels.{levels, layer_no}
use Rattle.track_graph.specs.Metal.{Metal, via_rects, wire_metal, via_metal}
use Rattle.def_wires.specs.declared.wiring.Wiring.{Wiring}
use Rattle.def_wires.specs.declared.wiring.WirePath.{WirePath}
use Rattle.def_wires.specs.declared.wiring.WireStep.{WireStep}
use Rattle.def_wires.specs.declared.wiring.WireStep.TheVariants.{Start, Go, Via as Through}

-- the number of the first of these levels' layers on which there is a rectangle, 0 where there is none
abbrev pub first_level_no : List (ℕ × Layer) → List Metal → ℕ
first_level_no [] rects = 0
first_level_no (l ∷ ls) rects = if list_any (λ (r : Metal). r.0.0 == l.0) rects then l.0 else first_level_no ls rects

-- the number of the lowest routing layer on which a via has a rectangle
abbrev pub via_level_no : Tech → ℕ → ℕ
via_level_no tech k = first_level_no (levels tech) (via_rects tech k)

abbrev pub stroke_steps : Tech → Stroke → List WireStep
stroke_steps tech (Run level a b) = Start (record { 0 = layer_no tech level }) a None ∷ Go b None ∷ []
stroke_steps tech (ViaAt k p) = Start (record { 0 = via_level_no tech k }) p None ∷ Through k N ∷ []

-- a path for each stroke, in regular wiring
abbrev pub stroke_path : Tech → Stroke → WirePath
stroke_path tech s = record { width = None; steps = stroke_steps tech s }

abbrev pub strokes_wiring : Tech → List Stroke → Wiring
strokes_wiring tech ss = record { paths = map (stroke_path tech) ss }

-- the rectangle of a run's wire, or those of a via
abbrev pub stroke_metal : Tech → Stroke → List Metal
stroke_metal tech (Run level a b) = wire_metal tech level a b ∷ []
stroke_metal tech (ViaAt k p) = via_metal tech k p

abbrev pub strokes_metal : Tech → List Stroke → List Metal
strokes_metal tech ss = flat_map (stroke_metal tech) ss
