use Rattle.std.proofs.Common.{◌≡◌, ℕ, List, length, slice_index_or, ap, subst, arith}
use Rattle.interval_label.specs.Known.{AreEmpty}
use Rattle.interval_label.proofs.RowsOf.{empty_none, empty_more}
use Rattle.interval_label.proofs.rows.empty_rows.Goals as goal

pub rows-init : goal.rows-init
rows-init g c = empty_none c.new-rows.result c.new-rows.ensures

pub rows-preserved : goal.rows-preserved
rows-preserved g c = empty_more c.rows.rows c.push.new.self c.new.result c.rows._n c.rows.invariant c.new.ensures c.in_ok-push.ensures.ok

pub returns : goal.returns
returns g c =
    let first : slice_index_or c.counts-counts.result 0 0 ≡ length c.args.arena.now.graph.intervals = ap (λ (xs : List ℕ). slice_index_or xs 0 0) c.counts-counts.ensures.counts in
    let n : c.rows._n ≡ length c.args.arena.now.graph.intervals = omega (arith, first, c.rows-test.false, c.rows.auto._n-end) in
    subst (λ (m : ℕ). AreEmpty c.rows.rows m) n c.rows.invariant
