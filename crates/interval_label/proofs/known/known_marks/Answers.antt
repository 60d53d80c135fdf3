use Rattle.std.proofs.Common.{◌≡◌, inl, inr, ◌<◌, ◌≤◌, ◌+◌, List, length, Some, slice_get, Contains, refl, sym, ap, ◌∙◌, subst, arith, ⊎_elim}
use Rattle.std.proofs.lemmas.Bool.{cases_lt}
use Rattle.std.proofs.lemmas.Option.{same_Some, slice_get_read}
use Rattle.label_arena.specs.declared.place.Place.{Place}
use Rattle.label_arena.specs.Marks.{IsStop, IsBridgeEnd, IsRunEnd}
use Rattle.interval_label.specs.Known.{IsJoinedTo}
use Rattle.interval_label.specs.State.{most_places}
use Rattle.interval_label.proofs.Members.{none_in}
use Rattle.interval_label.proofs.MarkList.{marks_kept, at_index, contains_index, joined_mark, all_marks, first_marks, few_marks, before}
use Rattle.interval_label.proofs.Stepping.{less_left}
use Rattle.interval_label.proofs.known.known_marks.Goals as goal

pub add_stops-requires-clause-marking : goal.add_stops-requires-clause-marking
add_stops-requires-clause-marking c = c.in_ok-marks.ensures.marking

pub add_stops-requires-2-clause-marking : goal.add_stops-requires-2-clause-marking
add_stops-requires-2-clause-marking c = c.in_ok-add_stops.ensures.ok.marking

pub add_bridges-requires : goal.add_bridges-requires
add_bridges-requires c = record { marking = c.in_ok-add_stops-2.ensures.ok.marking }

pub add_runs-requires : goal.add_runs-requires
add_runs-requires c = record { marking = c.in_ok-add_bridges.ensures.ok.marking }

pub marks-init : goal.marks-init
marks-init c =
    let by_runs : (v : Place) → Contains c.add_bridges.new.self.list.items v → Contains c.add_runs.new.self.list.items v = marks_kept c.args.arena.now.graph (IsRunEnd c.args.arena.now.graph) c.add_bridges.new.self c.add_runs.new.self c.in_ok-add_runs.ensures.ok in
    let by_bridges : (v : Place) → Contains c.add_stops-2.new.self.list.items v → Contains c.add_bridges.new.self.list.items v = marks_kept c.args.arena.now.graph (IsBridgeEnd c.args.arena.now.graph) c.add_stops-2.new.self c.add_bridges.new.self c.in_ok-add_bridges.ensures.ok in
    let by_targets : (v : Place) → Contains c.add_stops.new.self.list.items v → Contains c.add_stops-2.new.self.list.items v = marks_kept c.args.arena.now.graph (IsStop c.args.targets.now) c.add_stops.new.self c.add_stops-2.new.self c.in_ok-add_stops-2.ensures.ok in
    record {
      marking = c.in_ok-add_runs.ensures.ok.marking;
      are = λ v h. ⊎_elim
          (λ (o : Contains c.add_bridges.new.self.list.items v). ⊎_elim
          (λ (o : Contains c.add_stops-2.new.self.list.items v). ⊎_elim
          (λ (o : Contains c.add_stops.new.self.list.items v). ⊎_elim
          (λ (o : Contains c.in_ok-marks.marks.list.items v). absurd (none_in v (subst (λ (l : List Place). Contains l v) c.in_ok-marks.ensures.empty o)))
          (λ (s : IsStop c.args.sources.now v). (0, inl s))
          (c.in_ok-add_stops.ensures.ok.only v o))
          (λ (s : IsStop c.args.targets.now v). (0, inr (inl s)))
          (c.in_ok-add_stops-2.ensures.ok.only v o))
          (λ (s : IsBridgeEnd c.args.arena.now.graph v). (0, inr (inr (inl s))))
          (c.in_ok-add_bridges.ensures.ok.only v o))
          (λ (s : IsRunEnd c.args.arena.now.graph v). (0, inr (inr (inr s))))
          (c.in_ok-add_runs.ensures.ok.only v h);
      first = first_marks c.args.arena.now.graph c.args.sources.now c.args.targets.now c.add_runs.new.self.list.items
          (λ v s. by_runs v (by_bridges v (by_targets v (c.in_ok-add_stops.ensures.all v s))))
          (λ v s. by_runs v (by_bridges v (c.in_ok-add_stops-2.ensures.all v s)))
          (λ v s. by_runs v (c.in_ok-add_bridges.ensures.all v s))
          c.in_ok-add_runs.ensures.all;
      closed = λ j u v l. absurd (omega (arith, l));
    }

pub index-place-requires : goal.index-place-requires
index-place-requires c = omega (arith, c.marks-test.true, c.len.ensures)

pub follow-requires-clause-inside : goal.follow-requires-clause-inside
follow-requires-clause-inside c =
    let w : c.marks.next < length c.marks.marks.list.items = omega (arith, c.marks-test.true, c.len.ensures) in
    c.marks.invariant.marking.inside c.marks.next c.index-place.result.now (slice_get_read c.marks.marks.list.items (length c.marks.marks.list.items) c.marks.next c.index-place.result.now refl w c.index-place.ensures)

pub follow-requires-clause-marking : goal.follow-requires-clause-marking
follow-requires-clause-marking c = c.marks.invariant.marking

pub marks-preserved : goal.marks-preserved
marks-preserved c =
    let w : c.marks.next < length c.marks.marks.list.items = omega (arith, c.marks-test.true, c.len.ensures) in
    let here : slice_get c.marks.marks.list.items c.marks.next ≡ Some c.index-place.result.now = slice_get_read c.marks.marks.list.items (length c.marks.marks.list.items) c.marks.next c.index-place.result.now refl w c.index-place.ensures in
    let kept : (v : Place) → Contains c.marks.marks.list.items v → Contains c.follow.new.self.list.items v = marks_kept c.args.arena.now.graph (IsJoinedTo c.args.arena.now.graph c.index-place.result.now) c.marks.marks c.follow.new.self c.in_ok-follow.ensures.ok in
    record {
      marking = c.in_ok-follow.ensures.ok.marking;
      are = λ v h. ⊎_elim
          (λ (o : Contains c.marks.marks.list.items v). c.marks.invariant.are v o)
          (λ (j : IsJoinedTo c.args.arena.now.graph c.index-place.result.now v). joined_mark c.args.arena.now.graph c.args.sources.now c.args.targets.now c.index-place.result.now v (c.marks.invariant.are c.index-place.result.now (contains_index c.marks.marks.list.items c.marks.next c.index-place.result.now here)) j)
          (c.in_ok-follow.ensures.ok.only v h);
      first = λ v m. kept v (c.marks.invariant.first v m);
      closed = λ j u v l h joined. ⊎_elim
          (λ (l : j < c.marks.next).
          let old : slice_get c.marks.marks.list.items j ≡ Some u = before c.marks.marks.list.items c.follow.new.self.list.items j u c.in_ok-follow.ensures.ok.keeps (omega (arith, l, w)) h in
          kept v (c.marks.invariant.closed j u v l old joined))
          (λ (m : c.marks.next ≤ j).
          let e : c.marks.next ≡ j = omega (arith, l) in
          let there : slice_get c.follow.new.self.list.items c.marks.next ≡ Some c.index-place.result.now = c.in_ok-follow.ensures.ok.keeps c.marks.next c.index-place.result.now here in
          let same : u ≡ c.index-place.result.now = same_Some u c.index-place.result.now (sym h ∙ ap (slice_get c.follow.new.self.list.items) (sym e) ∙ there) in
          c.in_ok-follow.ensures.all v (subst (λ (p : Place). IsJoinedTo c.args.arena.now.graph p v) same joined))
          (cases_lt j c.marks.next);
    }

pub marks-smaller : goal.marks-smaller
marks-smaller c =
    let w : c.marks.next < length c.marks.marks.list.items = omega (arith, c.marks-test.true, c.len.ensures) in
    less_left (most_places c.args.arena.now.graph) c.marks.next (c.marks.next + 1) refl (omega (arith, w, few_marks c.args.arena.now.graph c.marks.marks.list.items c.marks.marks.rows c.marks.invariant.marking))

pub returns : goal.returns
returns c = record {
  wide = c.marks.invariant.marking.wide;
  marks = λ v l. c.marks.invariant.are v (c.marks.invariant.marking.list_has v l);
  inside = λ v l. (let h : Contains c.marks.marks.list.items v = c.marks.invariant.marking.list_has v l in c.marks.invariant.marking.inside h.0 v (at_index c.marks.marks.list.items v h));
  all = λ v m. c.marks.invariant.marking.rows_have v (all_marks c.args.arena.now.graph c.args.sources.now c.args.targets.now c.marks.marks.list.items c.marks.invariant.first
      (λ u w h joined. c.marks.invariant.closed h.0 u w (let l : h.0 < length c.marks.marks.list.items = h.1 in omega (arith, l, c.marks-test.false, c.len.ensures)) (at_index c.marks.marks.list.items u h) joined)
      m.0 v m.1);
}
