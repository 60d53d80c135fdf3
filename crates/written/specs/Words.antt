-- The words of wiring as it is written (DEF 5.8, NETS: regularWiring).
use Rattle.std.specs.Prelude.{ℕ, List, [], ◌∷◌, ◌++◌, codes, flat_map}
use Rattle.std.specs.Fmt.{signed_decimal}
use Rattle.rt_base.specs.declared.geometry.Point.{Point}
use Rattle.rt_base.specs.declared.tech.Tech.{Tech}
use Rattle.track_graph.specs.declared.history.Stroke.{Stroke}
use Rattle.track_graph.specs.declared.history.Stroke.TheVariants.{Run, Via as ViaAt}
use Rattle.track_graph.specs.Levels.{layer_name_of}
use Rattle.track_graph.specs.Metal.{via_level_name, via_name_of}

-- `( x y )`
abbrev pub point_words : Point → List (List ℕ)
point_words p = codes "(" ∷ signed_decimal p.x ∷ signed_decimal p.y ∷ codes ")" ∷ []

-- `layer ( x y ) ( x y )`, or `layer ( x y ) via`
abbrev pub stroke_words : Tech → Stroke → List (List ℕ)
stroke_words tech (Run level a b) = layer_name_of tech level ∷ point_words a ++ point_words b
stroke_words tech (ViaAt k p) = via_level_name tech k ∷ point_words p ++ via_name_of tech k ∷ []

abbrev pub further_words : Tech → Stroke → List (List ℕ)
further_words tech s = codes "NEW" ∷ stroke_words tech s

-- a first stroke, and the others behind `NEW`
abbrev pub wiring_words : Tech → Stroke → List Stroke → List (List ℕ)
wiring_words tech s ss = stroke_words tech s ++ flat_map (further_words tech) ss

-- `+ ROUTED` and the wiring; nothing where there is no stroke
abbrev pub option_words : Tech → List Stroke → List (List ℕ)
option_words tech [] = []
option_words tech (s ∷ ss) = codes "+" ∷ codes "ROUTED" ∷ wiring_words tech s ss
