use Rattle.std.proofs.Common.{◌∙◌, IsSome, ap, sym, subst, arith}
use Rattle.std.proofs.lemmas.Bool.{false≢true}
use Rattle.search.proofs.Entries.{copied-step}
use Rattle.search.proofs.table.Table.copy.Goals as goal
use Rattle.search.proofs.table.Table.copy.Goals.{in-Some+in_ok-copy+in_ok-insert+in-Some-1, in-Some+in_ok-copy+in_ok-insert+in-None-1, in_default}

pub loop-i-preserved : goal.loop-i-preserved
loop-i-preserved g c = elim c.match-get_index.branch [
  | in-Some+in_ok-copy+in_ok-insert+in-Some-1 w ↦ ap (λ m. m.entries) w.of-is ∙ copied-step c.args.self.now c.self.inside.of.entries c.loop-i.of.entries w.insert.new.self.entries c.loop-i.i w.in-Some.net.now w.in-Some.value.now w.in_ok-copy.field-0 c.self.view_is c.len-i-end.ensures.unique c.loop-i.invariant (sym w.in-Some.ensures.entry) w.in_ok-copy.ensures w.in_ok-insert.ensures.entries
  | in-Some+in_ok-copy+in_ok-insert+in-None-1 w ↦ ap (λ m. m.entries) w.of-is ∙ copied-step c.args.self.now c.self.inside.of.entries c.loop-i.of.entries w.insert.new.self.entries c.loop-i.i w.in-Some.net.now w.in-Some.value.now w.in_ok-copy.field-0 c.self.view_is c.len-i-end.ensures.unique c.loop-i.invariant (sym w.in-Some.ensures.entry) w.in_ok-copy.ensures w.in_ok-insert.ensures.entries
  | in_default w ↦ (let some : IsSome c.get_index.result = c.get_index.ensures.found.1 (omega (arith, c.loop-i-test.true, c.len-i-end.ensures.len)) in absurd (false≢true (subst IsSome w.in_default.is some)))
]
