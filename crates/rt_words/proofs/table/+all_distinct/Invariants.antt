use Rattle.std.proofs.Common.{length}
use Rattle.rt_words.proofs.table.+all_distinct.Given as goal

abbrev pub decreases-all_distinct : goal.decreases-all_distinct
decreases-all_distinct l = length l.rows.now
