use Rattle.std.proofs.Common.{◌≡◌, ◌++◌, ◌+◌, ◌%◌, ℤ, pos, count_by, drop, take, get_or, refl, sym, ◌∙◌, to_z, of_z, w64, rules, arith}
use Rattle.std.proofs.lemmas.Int.{to_z-of_z}
use Rattle.std.proofs.lemmas.List.{drop_all, append-nil}
use Rattle.rt_base.specs.declared.geometry.Point.{Point}
use Rattle.rt_shapes.specs.Polygons.{crossings_of, slab_of}
use Rattle.rt_shapes.proofs.SlabLemmas.{slabs_more, next_ascending}
use Rattle.rt_shapes.proofs.SweepLemmas.{IsSwept, swept-more, swept-higher, swept_is, rising-drop}
use Rattle.rt_shapes.proofs.polygon.add_slabs.Goals as goal

pub add_slab-requires-clause-rising : goal.add_slab-requires-clause-rising
add_slab-requires-clause-rising c =
    let i = c.loop-high.high-index in
    let next : ℤ = get_or c.args.above.now i (pos 0) in
    let high : to_z w64 (of_z w64 next) ≡ next = to_z-of_z w64 _ (search rules) in
    rw high (next_ascending (to_z w64 c.loop-high.low-bits) c.args.above.now i next (omega arith) refl c.loop-high.invariant.ascending).0

pub loop-high-preserved : goal.loop-high-preserved
loop-high-preserved c =
    let i = c.loop-high.high-index in
    let low : ℤ = to_z w64 c.loop-high.low-bits in
    let above = c.args.above.now in
    let next : ℤ = get_or above i (pos 0) in
    let high : to_z w64 (of_z w64 next) ≡ next = to_z-of_z w64 _ (search rules) in
    let turns = c.args.turns.now in
    let rest = c.loop-high.rest.now in
    let n = c.row_len.result in
    let xs = c.in_ok-xs.xs.items in
    let rising = next_ascending low above i next (omega arith) refl c.loop-high.invariant.ascending in
    let parity : (p : ℤ → _) → count_by p xs % 2 ≡ (count_by p c.loop-high.xs.items + count_by (λ (q : Point). p q.x) (take n rest)) % 2 = λ p. rw (c.as_slice.ensures.value, c.split_at.ensures.front) at c.in_ok-xs.ensures.parity p in
    let swept : IsSwept turns (drop n rest) low xs = swept-more turns rest low c.loop-high.xs.items n xs c.loop-high.invariant.swept c.row_len.ensures.passed parity in
    record {
      swept = rw (high, c.split_at.ensures.back) (swept-higher turns (drop n rest) low next xs rising.0 swept);
      rising = rw c.split_at.ensures.back (rising-drop rest n c.loop-high.invariant.rising);
      ascending = rw high rising.1;
      same = λ edges perm.
          let row : xs ≡ crossings_of low edges = swept_is edges turns (drop n rest) low xs perm swept c.row_len.ensures.ahead c.in_ok-xs.ensures.ascending in
          let step : c.add_slab.new.out.items ≡ c.loop-high.out.items ++ slab_of low next (crossings_of low edges) = rw (c.as_slice-in-loop-high.ensures.value, row, high) at c.in_ok-add_slab.ensures in
          rw high (slabs_more edges low above i next _ c.loop-high.out.items _ (omega arith) refl (c.loop-high.invariant.same edges perm) step);
    }

pub returns : goal.returns
returns c = λ edges perm.
    let none = drop_all c.loop-high.high-index c.args.above.now c.loop-high-test.false in
    let lowest : to_z w64 (of_z w64 c.args.lowest) ≡ c.args.lowest = to_z-of_z w64 _ c.ranges.lowest in
    sym (append-nil c.loop-high.out.items) ∙ (rw (none, lowest) at c.loop-high.invariant.same edges perm)
