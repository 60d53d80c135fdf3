-- Whose a pin is (DEF 5.8, NETS: the pins that a net names).
use Rattle.std.specs.Prelude.{ℕ, List, Bool, ◌&&◌, if◌then◌else◌, position, bytes_eq, codes, Option, Some, None}
use Rattle.std.specs.List.{list_any}
use Rattle.rt_base.specs.declared.tech.Owner.{Owner}
use Rattle.rt_base.specs.declared.tech.Owner.TheVariants.{Net as OfNet, Nobody}
use Rattle.def_text.specs.declared.def.DefNet.{DefNet}

-- a connection is to a pin of the design, and not to one of a component
abbrev pub is_io : List ℕ × List ℕ → Bool
is_io c = bytes_eq (codes "PIN") c.0

-- two connections are to one pin
abbrev pub same_pin : List ℕ × List ℕ → List ℕ × List ℕ → Bool
same_pin a b = bytes_eq a.0 b.0 && bytes_eq a.1 b.1

-- a net names a pin
abbrev pub names_pin : List ℕ × List ℕ → DefNet → Bool
names_pin c net = list_any (same_pin c) net.pins

abbrev pub owner_from : Option ℕ → Owner
owner_from (Some n) = OfNet n
owner_from None = Nobody

-- whose the pin of a connection is: the first net's that names it, or nobody's
abbrev pub owner_of : List DefNet → List ℕ × List ℕ → Owner
owner_of nets c = owner_from (position (names_pin c) nets)

-- whose a pin of the design is
abbrev pub io_owner : (List ℕ × List ℕ → Owner) → List ℕ → Owner
io_owner whose name = whose (codes "PIN", name)

-- whose a pin of a component is: a component of the name PIN has no pin that a net could name
abbrev pub cell_owner : (List ℕ × List ℕ → Owner) → List ℕ × List ℕ → Owner
cell_owner whose c = if is_io c then Nobody else whose c
