-- Guides of nets on levels (ISPD 2018 contest, route guides; LEF 5.8, LAYER: TYPE ROUTING).
use Rattle.std.specs.Prelude.{ℕ, List, [], Bool, map, position, bytes_eq, Option, option_map, unwrap_or}
use Rattle.std.specs.List.{filter, filter_map, find, list_any}
use Rattle.rt_base.specs.Sides.{Sides}
use Rattle.rt_base.specs.declared.tech.Layer.{Layer}
use Rattle.guide_text.specs.IsGuides.{Box, Guide}

-- the names of the routing layers, bottom up
abbrev pub level_names : List Layer → List (List ℕ)
level_names layers = map (λ (l : Layer). l.name) (filter (λ (l : Layer). l.routing) layers)

-- the level of the routing layer with this name
abbrev pub level_named : List Layer → List ℕ → Option ℕ
level_named layers name = position (bytes_eq name) (level_names layers)

-- a box on the level that has its layer's name among these names of levels, nothing where none has
abbrev pub box_among : List (List ℕ) → Box → Option (ℕ × Sides)
box_among levels box = option_map (λ (level : ℕ). (level, box.1)) (position (bytes_eq box.0) levels)

-- boxes on their levels; those on other layers are dropped
abbrev pub boxes_on : List Layer → List Box → List (ℕ × Sides)
boxes_on layers boxes = filter_map (box_among (level_names layers)) boxes

-- what the guides say of a net: the boxes of the first entry of that name
abbrev pub entry_of : List Guide → List ℕ → Option (List Box)
entry_of guides name = option_map (λ (g : Guide). g.1) (find (λ (g : Guide). bytes_eq name g.0) guides)

-- the guides have an entry of that name
abbrev pub is_guided : List Guide → List ℕ → Bool
is_guided guides name = list_any (λ (g : Guide). bytes_eq name g.0) guides

-- the boxes of a net, none where it has no entry
abbrev pub boxes_of : List Layer → List Guide → List ℕ → List (ℕ × Sides)
boxes_of layers guides name = boxes_on layers (unwrap_or (entry_of guides name) [])
