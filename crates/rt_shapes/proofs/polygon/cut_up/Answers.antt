use Rattle.std.proofs.Common.{◌≡◌, ◌∙◌, ◌-◌, ◌<◌, ◌≤◌, pos, List, length, get_or, take, drop, sym, ap, subst, to_z, of_z, w64, rules, arith}
use Rattle.std.proofs.lemmas.Int.{to_z-of_z}
use Rattle.std.proofs.lemmas.List.{take_rest}
use Rattle.std.specs.List.Sorted.{IsPermutation}
use Rattle.rt_base.specs.declared.geometry.Point.{Point}
use Rattle.rt_shapes.specs.Sweep.{turns_of}
use Rattle.rt_shapes.specs.Polygons.{IsAscending, edges_of, heights_of}
use Rattle.rt_shapes.proofs.SlabLemmas.{heights_split}
use Rattle.rt_shapes.proofs.SweepLemmas.{no_slabs, all_slabs}
use Rattle.rt_shapes.proofs.polygon.cut_up.Goals as goal
use Rattle.rt_shapes.proofs.polygon.cut_up.Goals.{in_default, in-len1-up+in_ok-add_slabs}

pub add_slabs-requires-clause-ascending : goal.add_slabs-requires-clause-ascending
add_slabs-requires-clause-ascending c =
    let ys = c.as_slice-2.result.now in
    let low : to_z w64 (of_z w64 (get_or ys 0 (pos 0))) ≡ get_or ys 0 (pos 0) = to_z-of_z w64 _ (search rules) in
    let others : take (length ys - 1) (drop 1 ys) ≡ drop 1 ys = take_rest ys 1 in
    rw (low, others) (subst IsAscending (heights_split ys (omega arith)) (subst IsAscending (sym c.as_slice-2.ensures.value) c.in_ok-heights.ensures.ascending))

pub returns : goal.returns
returns c =
    let turns = c.in_ok-turns.turns.items in
    let points = c.args.points.now in
    let ys = c.as_slice-2.result.now in
    let heights : ys ≡ heights_of turns = c.as_slice-2.ensures.value ∙ (rw c.as_slice.ensures.value at c.in_ok-heights.ensures.exact) in
    elim c.if-as_slice-lt1.branch [
      | in_default w ↦ let short : length ys < 1 = w.in_default.len_below in ap (λ v. v.items) w.out-is ∙ (c.new-out.ensures.items ∙ no_slabs points turns ys c.in_ok-turns.ensures.all heights short)
      | in-len1-up+in_ok-add_slabs w ↦
          let long : 1 ≤ length ys = omega arith in
          let low : to_z w64 (of_z w64 (get_or ys 0 (pos 0))) ≡ get_or ys 0 (pos 0) = to_z-of_z w64 _ (search rules) in
          let others : take (length ys - 1) (drop 1 ys) ≡ drop 1 ys = take_rest ys 1 in
          let perm = subst (λ (l : List Point). IsPermutation (turns_of (edges_of points)) l) (sym w.as_slice-in-len1-up.ensures.value) c.in_ok-turns.ensures.all in
          let made = w.in_ok-add_slabs.ensures (edges_of points) perm in
          ap (λ v. v.items) w.out-is ∙ ((rw (c.new-out.ensures.items, low, others) at made) ∙ all_slabs points turns ys c.in_ok-turns.ensures.all heights long)
    ]
