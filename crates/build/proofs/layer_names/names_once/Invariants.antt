use Rattle.std.proofs.Common.{◌≡◌, ℕ, List, take, bytes_eq}
use Rattle.std.specs.List.{list_any}
use Rattle.build.proofs.layer_names.names_once.Given as goal

abbrev pub invariant-loop-name : goal.invariant-loop-name
invariant-loop-name l = (q : List ℕ) → list_any (bytes_eq q) l.names ≡ list_any (bytes_eq q) (take l.name-index l.all)
