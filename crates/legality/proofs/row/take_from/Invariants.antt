use Rattle.std.proofs.Common.{◌≡◌, Contains}
use Rattle.std.specs.List.{AllWithin}
use Rattle.legality.proofs.row.take_from.Given as goal

abbrev pub invariant-loop-i : goal.invariant-loop-i
invariant-loop-i l =
    record {
      same : l.bands.items ≡ l.fn.bands.items;
      none : AllWithin (λ b. Contains b l.shape → ⊥) l.fn.bands.items 0 l.i;
    }
