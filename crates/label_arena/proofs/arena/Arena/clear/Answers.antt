use Rattle.label_arena.proofs.Keeping.{kept_empty}
use Rattle.label_arena.proofs.arena.Arena.clear.Goals as goal

pub invariant_of-self : goal.invariant_of-self
invariant_of-self c = kept_empty _ _ _ _ _ _ _ c.clear.ensures.items c.clear-2.ensures.items c.clear-3.ensures.items c.clear-4.ensures.items c.clear_all.ensures
