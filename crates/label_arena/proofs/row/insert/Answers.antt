use Rattle.std.proofs.Common.{ap, length, arith}
use Rattle.label_arena.proofs.Sorting.{row_is, row_written}
use Rattle.label_arena.proofs.row.insert.Goals as goal

pub insert-requires : goal.insert-requires
insert-requires c = omega (arith, ap length (row_is _ c.args.i c.index_mut.result.now c.requires.within c.index_mut.ensures.value), c.requires.at)

pub returns-clause-ok : goal.returns-clause-ok
returns-clause-ok c = row_written _ c.args.i c.index_mut.result.now c.insert.new.self c.args.at c.args.no c.requires.within c.index_mut.ensures.value c.in_ok-insert.ensures.ok
