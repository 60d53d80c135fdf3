-- What holds of everything that is read from a DEF text: its numbers are in range, its names are names, and no two items of a section have one name.
use Rattle.std.specs.Prelude.{◌≡◌, ◌≢◌, ℕ, ◌≤◌, ◌<◌, ◌^◌, pos, ◌≤ℤ◌, true, List, length, All, AllPairs, IfSome}
use Rattle.rt_base.specs.Names.{IsName}
use Rattle.rt_base.specs.Sides.{Sides}
use Rattle.rt_base.specs.Ranges.{IsWithin, IsPointWithin, AreSidesWithin}
use Rattle.rt_base.specs.declared.geometry.Point.{Point}
use Rattle.rt_base.specs.declared.orient.Orient.{Orient}
use Rattle.rt_forms.specs.Reading.{is_name_word}
use Rattle.def_text.specs.declared.def.Def.{Def}
use Rattle.def_text.specs.declared.def.TrackRow.{TrackRow}
use Rattle.def_text.specs.declared.def.DefVia.{DefVia}
use Rattle.def_text.specs.declared.def.Component.{Component}
use Rattle.def_text.specs.declared.def.IoPin.{IoPin}
use Rattle.def_text.specs.declared.def.DefNet.{DefNet}

-- a word that isn't quoted, and none of the signs
abbrev pub IsNameWord : List ℕ → Type 0
IsNameWord name = is_name_word name ≡ true

-- a layer's name with a rectangle
abbrev pub Metal : Type 0
Metal = List ℕ × Sides

-- a rectangle of a placed pin
abbrev pub IsMetal : Metal → Type 0
IsMetal m = IsNameWord m.0 × AreSidesWithin (2 ^ 31) m.1

pub record IsTrackRow (t : TrackRow) : Type 0 where
  pub first : IsWithin (2 ^ 30) t.first
  pub some : 1 ≤ t.count
  pub count : t.count ≤ 2 ^ 30
  pub ahead : pos 1 ≤ℤ t.step
  pub step : t.step ≤ℤ pos (2 ^ 30)
  pub layers : IfSome t.layers (λ layers. All IsNameWord layers)

pub record IsComponent (c : Component) : Type 0 where
  pub name : IsNameWord c.name
  pub of_macro : IsNameWord c.of
  pub placed : IfSome c.placed (λ (p : Point × Orient). IsPointWithin (2 ^ 30) p.0)

pub record IsIoPin (p : IoPin) : Type 0 where
  pub name : IsNameWord p.name
  pub rects : All IsMetal p.rects

-- component and pin
abbrev pub IsConnection : (List ℕ × List ℕ) → Type 0
IsConnection c = IsNameWord c.0 × IsNameWord c.1

pub record IsDefNet (n : DefNet) : Type 0 where
  pub name : IsName n.name
  pub pins : All IsConnection n.pins
  pub pin_count : length n.pins < 2 ^ 32

-- a range of tokens, of so many: the number of its first, and of the one past its last
abbrev pub IsRange : ℕ → (ℕ × ℕ) → Type 0
IsRange count r = (r.0 ≤ r.1) × (r.1 ≤ count)

-- no two of these have one name
abbrev pub AreNamedApart : {A : Type 0} → (A → List ℕ) → List A → Type 0
AreNamedApart name items = AllPairs (λ a b. name a ≢ name b) items

pub record IsDef (d : Def) : Type 0 where
  pub units : (1 ≤ d.units) × (d.units ≤ 1000000)
  pub die : AreSidesWithin (2 ^ 30) d.die
  pub tracks : All IsTrackRow d.tracks
  pub vias : All (λ (v : DefVia). IsNameWord v.name) d.vias
  pub via_names : AreNamedApart (λ (v : DefVia). v.name) d.vias
  pub components : All IsComponent d.components
  pub component_names : AreNamedApart (λ (c : Component). c.name) d.components
  pub pins : All IsIoPin d.pins
  pub pin_names : AreNamedApart (λ (p : IoPin). p.name) d.pins
  pub pin_count : length d.pins < 2 ^ 32
  pub blockages : All IsMetal d.blockages
  pub special : All IsDefNet d.special
  pub special_names : AreNamedApart (λ (n : DefNet). n.name) d.special
  pub nets : All IsDefNet d.nets
  pub net_names : AreNamedApart (λ (n : DefNet). n.name) d.nets
  pub net_count : length d.nets < 2 ^ 32

-- the ranges of a text with so many tokens are ranges of them
pub record AreRanges (count : ℕ) (d : Def) : Type 0 where
  pub vias : All (λ (v : DefVia). IsRange count v.tokens) d.vias
  pub special : All (λ (n : DefNet). All (IsRange count) n.wiring) d.special
  pub nets : All (λ (n : DefNet). All (IsRange count) n.wiring) d.nets

-- the closing `;` of nets stand one behind the other, in a text of this length
pub record AreCloses (size : ℕ) (nets : List DefNet) : Type 0 where
  pub ascending : AllPairs (λ (a b : DefNet). a.close < b.close) nets
  pub within : All (λ (n : DefNet). n.close < size) nets
