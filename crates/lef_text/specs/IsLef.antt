-- What holds of each LEF that is read.
use Rattle.std.specs.Prelude.{◌≡◌, ◌≢◌, ℕ, ◌<◌, ◌^◌, ◌+◌, ◌||◌, Bool, true, false, not, List, [], ◌∷◌, map, filter, length, All, AllPairs, ℤ, pos, ◌≤ℤ◌, bytes_eq, codes}
use Rattle.rt_base.specs.Names.{IsName}
use Rattle.rt_base.specs.Sides.{Sides}
use Rattle.rt_base.specs.Tables.{IsTable}
use Rattle.rt_base.specs.Ranges.{IsWithin, IsWidth, AreSidesWithin}
use Rattle.rt_base.specs.declared.tech.LayerNo.{LayerNo}
use Rattle.rt_base.specs.declared.tech.Layer.{Layer}
use Rattle.rt_base.specs.declared.tech.Via.{Via}
use Rattle.rt_forms.specs.Reading.{is_name_word}
use Rattle.lef_text.specs.declared.lef.Lef.{Lef}
use Rattle.lef_text.specs.declared.lef.Macro.{Macro}

-- words that can't name a via, since a wire's path means something else by them
abbrev pub is_path_word : List ℕ → Bool
is_path_word name = bytes_eq name (codes "NEW") || bytes_eq name (codes "RECT") || bytes_eq name (codes "MASK") || bytes_eq name (codes "STYLE") || bytes_eq name (codes "TAPERRULE") || bytes_eq name (codes "VIRTUAL")

-- not negative, and at most 2 ^ 30
abbrev pub IsSpacing : ℤ → Type 0
IsSpacing s = (pos 0 ≤ℤ s) × IsWithin (2 ^ 30) s

abbrev pub IfRouting : Bool → Type 0 → Type 0
IfRouting true P = P
IfRouting false P = Unit {0}

pub record IsLayer (l : Layer) : Type 0 where
  pub name : IsName l.name
  pub width : IfRouting l.routing (IsWidth l.width)
  pub spacing : IsSpacing l.spacing
  pub table : IsTable l.table

-- each differs from the one before
abbrev pub Alternate : List Bool → Type 0
Alternate [] = Unit {0}
Alternate (a ∷ []) = Unit {0}
Alternate (a ∷ b ∷ bs) = (b ≡ not a) × Alternate (b ∷ bs)

-- the directions of the routing layers, bottom up
abbrev pub directions : List Layer → List Bool
directions layers = map (λ (l : Layer). l.horizontal) (filter (λ (l : Layer). l.routing) layers)

-- a rectangle on one of so many layers, at most this far from (0, 0)
abbrev pub IsOn : ℕ → ℕ → LayerNo × Sides → Type 0
IsOn layers most r = (r.0.0 < layers) × AreSidesWithin most r.1

pub record IsVia (layers : ℕ) (v : Via) : Type 0 where
  pub name : IsName v.name
  pub no_path_word : is_path_word v.name ≡ false
  pub rects : All (IsOn layers (2 ^ 60 + 2 ^ 30)) v.rects

abbrev pub IsPin : ℕ → List ℕ × List (LayerNo × Sides) → Type 0
IsPin layers p = (is_name_word p.0 ≡ true) × All (IsOn layers (2 ^ 31)) p.1

pub record IsMacro (layers : ℕ) (m : Macro) : Type 0 where
  pub name : is_name_word m.name ≡ true
  pub w : IsWithin (2 ^ 30) m.w
  pub h : IsWithin (2 ^ 30) m.h
  pub pins : All (IsPin layers) m.pins
  pub few_pins : length m.pins < 2 ^ 32
  pub obs : All (IsOn layers (2 ^ 31)) m.obs

-- no two of these names are the same
abbrev pub AreDistinct : List (List ℕ) → Type 0
AreDistinct names = AllPairs (λ a b. a ≢ b) names

pub record IsLef (lef : Lef) : Type 0 where
  pub layers : All IsLayer lef.layers
  pub directions : Alternate (directions lef.layers)
  pub vias : All (IsVia (length lef.layers)) lef.vias
  pub macros : All (IsMacro (length lef.layers)) lef.macros
  pub layer_names : AreDistinct (map (λ (l : Layer). l.name) lef.layers)
  pub via_names : AreDistinct (map (λ (v : Via). v.name) lef.vias)
  pub macro_names : AreDistinct (map (λ (m : Macro). m.name) lef.macros)
  pub few_layers : length lef.layers < 2 ^ 32
  pub few_vias : length lef.vias < 2 ^ 32
  pub few_macros : length lef.macros < 2 ^ 32
