-- Look-ups by name, as the code keeps them.
use Rattle.std.specs.Prelude.{◌≡◌, ℕ, ◌∷◌, List, []}
use Rattle.std.specs.List.{AllZip}
use Rattle.rt_base.specs.Sides.{Sides}
use Rattle.rt_base.specs.declared.tech.LayerNo.{LayerNo}
use Rattle.rt_base.specs.declared.tech.Owner.{Owner}
use Rattle.lef_text.specs.declared.lef.Macro.{Macro}
use Rattle.def_text.specs.declared.def.Component.{Component}
use Rattle.def_text.specs.declared.def.DefNet.{DefNet}
use Rattle.cells.specs.declared.firsts.Firsts.{Firsts}
use Rattle.cells.specs.declared.owners.Owners.{Owners}
use Rattle.cells.specs.declared.index.CellIndex.{CellIndex}
use Rattle.cells.specs.Firsts.{first_in, ArePlaces}
use Rattle.cells.specs.Owners.{owner_from, owner_of}

-- component and pin in one name: each byte of the component behind a 1, and then a 0 and the pin
abbrev pub key : List ℕ → List ℕ → List ℕ
key [] pin = 0 ∷ pin
key (c ∷ cs) pin = 1 ∷ c ∷ key cs pin

-- whose the pin of a connection is
abbrev pub owner_in : Owners → List ℕ × List ℕ → Owner
owner_in owners c = owner_from (first_in owners.nets (key c.0 c.1))

-- whose the pins are that these nets name
abbrev pub AreOwners : List DefNet → Owners → Type 0
AreOwners nets owners = (c : List ℕ × List ℕ) → owner_in owners c ≡ owner_of nets c

-- the pins of a macro by name
abbrev pub ArePinsOf : Macro → Firsts ℕ → Type 0
ArePinsOf m pins = ArePlaces (λ (p : List ℕ × List (LayerNo × Sides)). p.0) m.pins pins

pub record AreCells (macros : List Macro) (components : List Component) (index : CellIndex) : Type 0 where
  pub macros_are : ArePlaces (λ (m : Macro). m.name) macros index.macros
  pub pins_are : AllZip ArePinsOf macros index.pins
  pub components_are : ArePlaces (λ (c : Component). c.name) components index.components
