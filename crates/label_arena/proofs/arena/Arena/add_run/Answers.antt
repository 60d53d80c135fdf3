use Rattle.std.proofs.Common.{sym, subst}
use Rattle.label_arena.specs.Lists.{Lists}
use Rattle.label_arena.specs.Plain.{IsRun}
use Rattle.label_arena.proofs.Keeping.{kept_run}
use Rattle.label_arena.proofs.arena.Arena.add_run.Goals as goal

pub invariant_of-self-2 : goal.invariant_of-self-2
invariant_of-self-2 c = kept_run _ _ _ _ _ _ _ _ c.self.invariant _ _ c.in_ok-push.ensures.items
    (subst (λ (v : Lists). IsRun v.graph.intervals (record { a = c.args.a; b = c.args.b; span = c.args.span; cost = c.args.cost })) (sym c.self.view_is) c.requires)
