use Rattle.std.proofs.Common.{sym, subst}
use Rattle.label_arena.specs.Lists.{Lists}
use Rattle.label_arena.specs.Plain.{IsInside}
use Rattle.label_arena.proofs.Keeping.{kept_bridge}
use Rattle.label_arena.proofs.arena.Arena.add_point.Goals as goal

pub invariant_of-self-2 : goal.invariant_of-self-2
invariant_of-self-2 c = kept_bridge _ _ _ _ _ _ _ _ c.self.invariant _ _ c.in_ok-push.ensures.items
    (subst (λ (v : Lists). IsInside v.graph c.args.a) (sym c.self.view_is) c.requires.a)
    (subst (λ (v : Lists). IsInside v.graph c.args.b) (sym c.self.view_is) c.requires.b)
