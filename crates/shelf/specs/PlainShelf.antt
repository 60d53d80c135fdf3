-- What contracts see of the shelf of the file system.
use Rattle.std.specs.Prelude.{ℕ}
use Rattle.shelf.specs.declared.plain_shelf.PlainShelf.{PlainShelf}

-- how many faults came so far
abbrev pub fault_count : {R : Type 0} → PlainShelf R → ℕ
fault_count shelf = shelf.faults
