use Rattle.std.proofs.Common.{◌≡◌, ℕ, List, Some, None, cond, take}
use Rattle.std.specs.List.{list_any}
use Rattle.std.specs.Option.{option_or}
use Rattle.cells.specs.Firsts.{ArePaired, first_in}
use Rattle.cells.specs.Owners.{same_pin}
use Rattle.cells.specs.Indexes.{key}
use Rattle.cells.proofs.owners.Owners.claim_all.Given as goal

abbrev pub invariant-loop-connection : goal.invariant-loop-connection
invariant-loop-connection l =
    ArePaired l.self.nets
    × ((c : List ℕ × List ℕ) → first_in l.self.nets (key c.0 c.1) ≡ option_or (first_in l.initial.self.nets (key c.0 c.1)) (cond (list_any (same_pin c) (take l.connection-index l.connections)) (Some l.net) None))
