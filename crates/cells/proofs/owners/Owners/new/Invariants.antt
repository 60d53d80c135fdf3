use Rattle.std.proofs.Common.{◌≡◌, ℕ, List, take, position}
use Rattle.cells.specs.Firsts.{ArePaired, first_in}
use Rattle.cells.specs.Owners.{names_pin}
use Rattle.cells.specs.Indexes.{key}
use Rattle.cells.proofs.owners.Owners.new.Given as goal

abbrev pub invariant-loop-number : goal.invariant-loop-number
invariant-loop-number l = ArePaired l.owners.nets × ((c : List ℕ × List ℕ) → first_in l.owners.nets (key c.0 c.1) ≡ position (names_pin c) (take l.number l.nets))
