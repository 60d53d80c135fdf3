use Rattle.std.proofs.Common.{◌<◌, length, arith}
use Rattle.label_arena.specs.Rows.{rows_of}
use Rattle.label_arena.proofs.Keeping.{kept_rows, kept_interval}
use Rattle.label_arena.proofs.arena.Arena.add_interval.Goals as goal

pub invariant_of-self : goal.invariant_of-self
invariant_of-self c = kept_rows _ _ _ _ _ _ _ _ c.self.invariant _ c.add_row.ensures.rows

pub invariant_of-self-in_err-push : goal.invariant_of-self-in_err-push
invariant_of-self-in_err-push c = rw c.in_err-push.ensures.items (kept_rows _ _ _ _ _ _ _ _ c.self.invariant _ c.add_row.ensures.rows)

pub invariant_of-self-2 : goal.invariant_of-self-2
invariant_of-self-2 c =
    let wide : length c.self.inside.intervals.items < length (rows_of c.add_row.new.rows.items) = omega (arith, c.in_ok-add_row.ensures.wide) in
    kept_interval _ _ _ _ _ _ _ _ (kept_rows _ _ _ _ _ _ _ _ c.self.invariant _ c.add_row.ensures.rows) _ _ c.in_ok-push.ensures.items wide
