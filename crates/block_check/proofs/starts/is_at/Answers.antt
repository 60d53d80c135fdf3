use Rattle.std.proofs.Common.{List, Contains, subst, sym}
use Rattle.rt_base.specs.declared.walk.Entry.{Entry}
use Rattle.block_check.proofs.Members.{any-from_contains, contains-from_any}
use Rattle.block_check.proofs.starts.is_at.Goals as goal

pub returns : goal.returns
returns c = (
  λ yes. (c.is_joined_as.ensures.0 c.if-not-is_joined_as.false, subst (λ (xs : List Entry). Contains xs c.args.entry.now) c.entries_of.ensures (contains-from_any c.entries_of.result.now c.args.entry.now (c.is_among.ensures.0 yes))),
  λ h. c.is_among.ensures.1 (any-from_contains c.entries_of.result.now c.args.entry.now (subst (λ (xs : List Entry). Contains xs c.args.entry.now) (sym c.entries_of.ensures) h.1)),
)
