use Rattle.std.proofs.Common.{◌≡◌, ◌++◌, drop}
use Rattle.cells.specs.Indexes.{key}
use Rattle.cells.proofs.owners.key.Given as goal

abbrev pub invariant-loop-byte : goal.invariant-loop-byte
invariant-loop-byte l = l.key.items ++ key (drop l.byte-index l.component) l.pin ≡ key l.component l.pin
