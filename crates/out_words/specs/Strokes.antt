-- What makes the words of a stroke plain.
use Rattle.std.specs.Prelude.{ℕ}
use Rattle.rt_base.specs.Ranges.{IsPointWithin}
use Rattle.rt_base.specs.declared.tech.Tech.{Tech}
use Rattle.track_graph.specs.declared.history.Stroke.{Stroke}
use Rattle.track_graph.specs.declared.history.Stroke.TheVariants.{Run, Via as ViaAt}
use Rattle.track_graph.specs.Levels.{layer_name_of}
use Rattle.track_graph.specs.Metal.{via_level_name, via_name_of}
use Rattle.rt_base.specs.Names.{IsPlainWord}

-- the names that the stroke is written with are plain
abbrev pub HasPlainNames : Tech → Stroke → Type 0
HasPlainNames tech (Run level a b) = IsPlainWord (layer_name_of tech level)
HasPlainNames tech (ViaAt k p) = IsPlainWord (via_level_name tech k) × IsPlainWord (via_name_of tech k)

-- its points are at most this far from both axes
abbrev pub IsStrokeWithin : ℕ → Stroke → Type 0
IsStrokeWithin most (Run level a b) = IsPointWithin most a × IsPointWithin most b
IsStrokeWithin most (ViaAt k p) = IsPointWithin most p
