use Rattle.std.proofs.Common.{◌≡◌, ◌-◌, ◌≤◌, pos, length, get_or, take, drop, to_z, of_z, w64, rules, arith}
use Rattle.std.proofs.lemmas.Int.{to_z-of_z}
use Rattle.std.proofs.lemmas.List.{take_rest}
use Rattle.rt_shapes.proofs.SlabLemmas.{slab_more, pair_ascending, rest_ascending}
use Rattle.rt_shapes.proofs.polygon.add_slab.Goals as goal

pub add_rect-requires-clause-wide : goal.add_rect-requires-clause-wide
add_rect-requires-clause-wide c =
    let rest = c.pairs.rest.now in
    let left : to_z w64 (of_z w64 (get_or rest 0 (pos 0))) ≡ get_or rest 0 (pos 0) = to_z-of_z w64 _ (search rules) in
    let right : to_z w64 (of_z w64 (get_or rest 1 (pos 0))) ≡ get_or rest 1 (pos 0) = to_z-of_z w64 _ (search rules) in
    rw (left, right) (pair_ascending rest (omega arith) c.pairs.invariant.ascending)

pub pairs-preserved : goal.pairs-preserved
pairs-preserved c =
    let rest = c.pairs.rest.now in
    let many : 2 ≤ length rest = omega arith in
    let left : to_z w64 (of_z w64 (get_or rest 0 (pos 0))) ≡ get_or rest 0 (pos 0) = to_z-of_z w64 _ (search rules) in
    let right : to_z w64 (of_z w64 (get_or rest 1 (pos 0))) ≡ get_or rest 1 (pos 0) = to_z-of_z w64 _ (search rules) in
    let others : take (length rest - 2) (drop 2 rest) ≡ drop 2 rest = take_rest rest 2 in
    record {
      same = rw others (slab_more _ _ rest _ c.pairs.out.items _ many c.pairs.invariant.same (rw (left, right) at c.in_ok-add_rect.ensures));
      ascending = rw others (rest_ascending rest c.pairs.invariant.ascending);
    }
