-- Technologies and wiring in range.
use Rattle.std.specs.Prelude.{◌≡◌, ℕ, ◌<◌, ◌+◌, ◌^◌, ℤ, pos, ◌≤ℤ◌, true, List, [], ◌∷◌, length, All, IfSome}
use Rattle.rt_base.specs.Ranges.{IsWidth, IsPointWithin, AreSidesWithin}
use Rattle.rt_base.specs.declared.tech.Layer.{Layer}
use Rattle.rt_base.specs.declared.tech.Via.{Via}
use Rattle.rt_base.specs.declared.tech.Tech.{Tech}
use Rattle.def_wires.specs.declared.wiring.Wiring.{Wiring}
use Rattle.def_wires.specs.declared.wiring.WirePath.{WirePath}
use Rattle.def_wires.specs.declared.wiring.WireStep.{WireStep}
use Rattle.def_wires.specs.declared.wiring.WireStep.TheVariants.{Start, Go, Via as Through, Patch}
use Rattle.def_wires.specs.declared.wiring.Spot.{Spot}
use Rattle.def_wires.specs.declared.wiring.Joined.{Joined}
use Rattle.rt_shapes.specs.declared.cut_array.Generated.{Generated}
use Rattle.def_wires.specs.declared.points.Corner.{Corner}
use Rattle.def_wires.specs.declared.vias.ViaParts.{ViaParts}
use Rattle.def_wires.specs.declared.arrays.Array.{Array}
use Rattle.def_wires.specs.declared.steps.OpenPath.{OpenPath}
use Rattle.def_wires.specs.Meaning.{Metal}

-- a rectangle on one of so many layers, at most this far from (0, 0)
abbrev pub IsOn : ℕ → ℕ → Metal → Type 0
IsOn layers most m = (m.0.0 < layers) × AreSidesWithin most m.1

abbrev pub HasWidth : Layer → Type 0
HasWidth l = l.routing ≡ true → IsWidth l.width

pub record IsTech (tech : Tech) : Type 0 where
  pub few_layers : length tech.layers < 2 ^ 32
  pub few_vias : length tech.vias < 2 ^ 32
  pub widths : All HasWidth tech.layers
  pub vias : All (λ (v : Via). All (IsOn (length tech.layers) (2 ^ 60 + 2 ^ 30)) v.rects) tech.vias

-- a width or an extension
abbrev pub IsLength : ℤ → Type 0
IsLength z = (pos 0 ≤ℤ z) × (z ≤ℤ pos (2 ^ 30))

abbrev pub IsStep : Tech → WireStep → Type 0
IsStep tech (Start layer point ext) = (layer.0 < length tech.layers) × IsPointWithin (2 ^ 61) point × IfSome ext IsLength
IsStep tech (Go point ext) = IsPointWithin (2 ^ 61) point × IfSome ext IsLength
IsStep tech (Through v o) = v < length tech.vias
IsStep tech (Patch r) = AreSidesWithin (2 ^ 30) r

-- the first of these steps is a start
abbrev pub BeginsWithStart : List WireStep → Type 0
BeginsWithStart [] = ⊥
BeginsWithStart (Start layer point ext ∷ steps) = Unit {0}
BeginsWithStart (Go point ext ∷ steps) = ⊥
BeginsWithStart (Through v o ∷ steps) = ⊥
BeginsWithStart (Patch r ∷ steps) = ⊥

pub record IsWirePath (tech : Tech) (path : WirePath) : Type 0 where
  pub width : IfSome path.width IsLength
  pub first : BeginsWithStart path.steps
  pub steps : All (IsStep tech) path.steps

-- layers, vias, widths, extensions and coordinates are in range, as those of wiring that is read are
abbrev pub IsWiring : Tech → Wiring → Type 0
IsWiring tech wiring = All (IsWirePath tech) wiring.paths

-- both layers are among so many
abbrev pub AreWithin : ℕ → Joined → Type 0
AreWithin n j = (j.lower.0 < n) × (j.upper.0 < n)

-- ---- while rectangles are made

-- the width of a wire
abbrev pub IsWireLength : ℤ → Type 0
IsWireLength z = (pos 0 ≤ℤ z) × (z ≤ℤ pos (2 ^ 32))

pub record IsSpot (at : Spot) : Type 0 where
  pub point : IsPointWithin (2 ^ 61) at.point
  pub ext : IfSome at.ext IsLength

-- ---- while wiring is read

pub record IsCorner (c : Corner) : Type 0 where
  pub point : IsPointWithin (2 ^ 30) c.point
  pub ext : IfSome c.ext IsLength

-- a path that is read, and where it stands
pub record IsOpenPath (tech : Tech) (path : OpenPath) : Type 0 where
  pub width : IfSome path.width IsLength
  pub first : BeginsWithStart path.steps
  pub steps : All (IsStep tech) path.steps
  pub layer : path.spot.layer.0 < length tech.layers
  pub point : IsPointWithin (2 ^ 30) path.spot.point
  pub ext : IfSome path.spot.ext IsLength

pub record IsArray (a : Array) : Type 0 where
  pub columns : (pos 1 ≤ℤ a.columns) × (a.columns ≤ℤ pos (2 ^ 30))
  pub rows : (pos 1 ≤ℤ a.rows) × (a.rows ≤ℤ pos (2 ^ 30))
  pub step : IsPointWithin (2 ^ 30) a.step

-- ---- while a via is read

-- two numbers from low on
abbrev pub IsPair : ℕ → ℤ × ℤ → Type 0
IsPair low p = ((pos low ≤ℤ p.0) × (p.0 ≤ℤ pos (2 ^ 30))) × ((pos low ≤ℤ p.1) × (p.1 ≤ℤ pos (2 ^ 30)))

-- the parts of a via on so many layers
pub record IsParts (layers : ℕ) (parts : ViaParts) : Type 0 where
  pub on : IfSome parts.layers (λ l. (l.0.0 < layers) × (l.1.0 < layers) × (l.2.0 < layers))
  pub cut : IfSome parts.cut (IsPair 1)
  pub spacing : IfSome parts.spacing (IsPair 0)
  pub enclosure : IfSome parts.enclosure (λ e. IsPair 0 e.0 × IsPair 0 e.1)
  pub array : IfSome parts.array (IsPair 1)

-- the layers of a generated via are among so many
abbrev pub IsFormOn : ℕ → Generated → Type 0
IsFormOn layers form = (form.layers.0.0 < layers) × (form.layers.1.0 < layers) × (form.layers.2.0 < layers)
