-- Layers and vias by their names.
use Rattle.std.specs.Prelude.{◌≡◌, ℕ, ◌+◌, List, [], ◌∷◌, map, position, bytes_eq, slice_get, Option, Some, None, option_and_then, if◌then◌else◌}
use Rattle.rt_base.specs.declared.tech.Layer.{Layer}
use Rattle.rt_base.specs.declared.tech.Via.{Via}
use Rattle.rt_base.specs.declared.tech.Tech.{Tech}
use Rattle.def_wires.specs.declared.names.Index.{Index}
use Rattle.def_wires.specs.declared.names.TechNames.{TechNames}
use Rattle.def_wires.specs.Meaning.{joined_by}

abbrev pub or_else : Option ℕ → Option ℕ → Option ℕ
or_else None b = b
or_else (Some a) b = Some a

abbrev pub here_if : List ℕ → List ℕ → ℕ → Option ℕ
here_if word name k = if bytes_eq word name then Some k else None

-- the number of the last of these that has the name, where the first has number k
abbrev pub last_from : List ℕ → ℕ → List (List ℕ) → Option ℕ
last_from word k [] = None
last_from word k (n ∷ names) = or_else (last_from word (k + 1) names) (here_if word n k)

-- the number of the layer with this name, of the last one where there are several
abbrev pub layer_named : List Layer → List ℕ → Option ℕ
layer_named layers word = last_from word 0 (map (λ (l : Layer). l.name) layers)

-- the number of the via with this name, of the last one where there are several: a via of DEF stands behind those of LEF
abbrev pub via_named : List Via → List ℕ → Option ℕ
via_named vias word = last_from word 0 (map (λ (v : Via). v.name) vias)

-- ---- how they are found

-- the number that an index has for a name
abbrev pub found_in : Index → List ℕ → Option ℕ
found_in index word = option_and_then (slice_get index.places) (position (bytes_eq word) index.names)

abbrev pub KnowsLayers : TechNames → List Layer → Type 0
KnowsLayers names layers = (word : List ℕ) → found_in names.layers word ≡ layer_named layers word

-- the names of a technology
pub record AreNamesOf (names : TechNames) (tech : Tech) : Type 0 where
  pub layers : KnowsLayers names tech.layers
  pub vias : (word : List ℕ) → found_in names.vias word ≡ via_named tech.vias word
  pub joined : names.joined ≡ map (λ (v : Via). joined_by tech v.rects) tech.vias
