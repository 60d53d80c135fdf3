-- Written wiring and the routed DEF (DEF 5.8, NETS: regularWiring).
use Rattle.std.specs.Prelude.{ℕ, ◌+◌, List, [], ◌∷◌, ◌++◌, codes, drop, flat_map, slice_range}
use Rattle.rt_text.specs.Point.{point_text}
use Rattle.rt_base.specs.declared.geometry.Point.{Point}
use Rattle.rt_base.specs.declared.tech.Tech.{Tech}
use Rattle.track_graph.specs.declared.design.Design.{Design}
use Rattle.track_graph.specs.declared.design.Net.{Net}
use Rattle.track_graph.specs.declared.history.State.{State}
use Rattle.track_graph.specs.declared.history.Stroke.{Stroke}
use Rattle.track_graph.specs.declared.history.Stroke.TheVariants.{Run, Via as ViaAt}
use Rattle.track_graph.specs.Levels.{layer_name_of}
use Rattle.track_graph.specs.Metal.{via_level_name, via_name_of}
use Rattle.track_graph.specs.States.{net_state}
use Rattle.track_graph.specs.Strokes.{walk_strokes}

-- `layer ( x y ) ( x y )`
abbrev pub run_text : List ℕ → Point → Point → List ℕ
run_text layer a b = layer ++ codes " " ++ point_text a.x a.y ++ codes " " ++ point_text b.x b.y

-- `layer ( x y ) via`
abbrev pub via_text : List ℕ → Point → List ℕ → List ℕ
via_text layer p name = layer ++ codes " " ++ point_text p.x p.y ++ codes " " ++ name

-- a run on its level's layer, or a via with the via's lower routing layer
abbrev pub stroke_text : Tech → Stroke → List ℕ
stroke_text tech (Run level a b) = run_text (layer_name_of tech level) a b
stroke_text tech (ViaAt k p) = via_text (via_level_name tech k) p (via_name_of tech k)

-- each on a line of its own, behind `NEW`
abbrev pub further_text : Tech → Stroke → List ℕ
further_text tech s = codes "\n    NEW " ++ stroke_text tech s

-- nothing where there is no stroke
abbrev pub wiring_text : Tech → List Stroke → List ℕ
wiring_text tech [] = []
wiring_text tech (s ∷ ss) = codes "\n  + ROUTED " ++ stroke_text tech s ++ flat_map (further_text tech) ss ++ codes "\n"

-- the strokes of a net's standing walks
abbrev pub net_strokes : Design → State → ℕ → List Stroke
net_strokes d s n = flat_map (walk_strokes d n) (net_state s n).walks

-- the text from a place on, with the wiring of these nets before their closing `;`; the first of them has number n
abbrev pub routed_from : List ℕ → Design → State → ℕ → ℕ → List Net → List ℕ
routed_from text d s n from [] = drop from text
routed_from text d s n from (net ∷ nets) = slice_range text from net.close ++ wiring_text d.tech (net_strokes d s n) ++ routed_from text d s (n + 1) net.close nets

-- the DEF text with the wiring of each net before its closing `;`; all other bytes stay
abbrev pub routed_def : List ℕ → Design → State → List ℕ
routed_def text d s = routed_from text d s 0 0 d.nets
