-- Strokes whose words mean, in the technology that wiring is read by, what they were written of in the design's technology.
use Rattle.std.specs.Prelude.{◌≡◌, ◌≢◌, ◌⊎◌, ℕ, ◌^◌, List, ◌++◌, map, Some, Bool, true, false, ◌||◌, bytes_eq, codes, IsTrue, slice_get, All, AllPairs}
use Rattle.rt_base.specs.Ranges.{IsPointWithin}
use Rattle.rt_base.specs.declared.geometry.Point.{Point}
use Rattle.rt_base.specs.declared.tech.Layer.{Layer}
use Rattle.rt_base.specs.declared.tech.LayerNo.{LayerNo}
use Rattle.rt_base.specs.declared.tech.Tech.{Tech}
use Rattle.rt_base.specs.declared.tech.Via.{Via}
use Rattle.rt_forms.specs.Reading.{is_name_word}
use Rattle.track_graph.specs.declared.history.Stroke.{Stroke}
use Rattle.track_graph.specs.declared.history.Stroke.TheVariants.{Run, Via as ViaAt}
use Rattle.track_graph.specs.Levels.{layer_no, layer_name_of}
use Rattle.track_graph.specs.Metal.{via_level_name, via_name_of}
use Rattle.def_wires.specs.declared.wiring.Joined.{Joined}
use Rattle.def_wires.specs.declared.words.StepWord.TheVariants.{ViaName}
use Rattle.def_wires.specs.Meaning.{is_routing, joined_by, rects_of_via, other_of}
use Rattle.def_wires.specs.Names.{layer_named, via_named}
use Rattle.def_wires.specs.Words.{step_word}
use Rattle.written.specs.Wires.{via_level_no}

-- a straight run, on the routing layer that its level's name names
pub record IsReadableRun (reader tech : Tech) (level : ℕ) (a b : Point) : Type 0 where
  pub name : is_name_word (layer_name_of tech level) ≡ true
  pub layer : layer_named reader.layers (layer_name_of tech level) ≡ Some (layer_no tech level)
  pub routing : is_routing reader (layer_no tech level) ≡ true
  pub straight : (a.x ≡ b.x) ⊎ (a.y ≡ b.y)
  pub start : IsPointWithin (2 ^ 30) a
  pub finish : IsPointWithin (2 ^ 30) b

-- a via that its name names, from the lower to the upper of the two routing layers that it joins
pub record IsReadableVia (reader tech : Tech) (k : ℕ) (p : Point) : Type 0 where
  pub name : is_name_word (via_level_name tech k) ≡ true
  pub layer : layer_named reader.layers (via_level_name tech k) ≡ Some (via_level_no tech k)
  pub routing : is_routing reader (via_level_no tech k) ≡ true
  pub step : step_word (via_name_of tech k) ≡ ViaName
  pub not_new : bytes_eq (via_name_of tech k) (codes "NEW") ≡ false
  pub via : via_named reader.vias (via_name_of tech k) ≡ Some k
  pub beyond : (j : Joined) × (joined_by reader (rects_of_via reader k) ≡ Some j) × ((other : LayerNo) × (other_of j (record { 0 = via_level_no tech k }) ≡ Some other))
  pub point : IsPointWithin (2 ^ 30) p

abbrev pub IsReadable : Tech → Tech → Stroke → Type 0
IsReadable reader tech (Run level a b) = IsReadableRun reader tech level a b
IsReadable reader tech (ViaAt k p) = IsReadableVia reader tech k p

-- words that can't name a via, since a wire's path means something else by them
abbrev pub is_path_word : List ℕ → Bool
is_path_word name = bytes_eq name (codes "NEW") || bytes_eq name (codes "RECT") || bytes_eq name (codes "MASK") || bytes_eq name (codes "STYLE") || bytes_eq name (codes "TAPERRULE") || bytes_eq name (codes "VIRTUAL")

-- via k of the design's technology is the one of these with that number, under a name that wiring can have
pub record IsOwn (own : List Via) (k : ℕ) (via : Via) : Type 0 where
  pub said : Via
  pub at : slice_get own k ≡ Some said
  pub same_name : said.name ≡ via.name
  pub same_rects : said.rects ≡ via.rects
  pub name : is_name_word via.name ≡ true
  pub no_path_word : is_path_word via.name ≡ false

-- the reader's technology has the layers of the design's, and the design's usable vias before further ones
pub record IsReadBy (reader tech : Tech) (own further : List Via) : Type 0 where
  pub layers : reader.layers ≡ tech.layers
  pub layer_names : All (λ (l : Layer). is_name_word l.name ≡ true) tech.layers
  pub layers_apart : AllPairs (λ a b. a ≢ b) (map (λ (l : Layer). l.name) tech.layers)
  pub vias : reader.vias ≡ own ++ further
  pub usable : (k : ℕ) (via : Via) → slice_get tech.vias k ≡ Some via → IsTrue via.usable → IsOwn own k via
  pub own_apart : AllPairs (λ a b. a ≢ b) (map (λ (v : Via). v.name) own)
