use Rattle.std.proofs.Common.{◌<◌, ℕ, length, slice_index_or, Contains, arith}
use Rattle.std.proofs.lemmas.List.Elements.{Contains-get_or}
use Rattle.label_arena.specs.declared.place.Place.{Place}
use Rattle.label_arena.specs.Ways.{IsRunOf}
use Rattle.interval_label.specs.Known.{IsAcross, IsJoinedTo}
use Rattle.interval_label.proofs.MarkList.{marks_same, marks_more, marks_kept, at_index}
use Rattle.interval_label.proofs.Spreading.{more_of, run_within}
use Rattle.interval_label.proofs.marking.Marking.follow.Goals as goal

pub runs-init : goal.runs-init
runs-init c = record { marks = marks_same c.args.arena.now.graph (IsJoinedTo c.args.arena.now.graph c.args.place) c.args.self.now c.requires.marking; all = λ j k l. absurd (omega (arith, l)) }

pub add_across-requires-clause-marking : goal.add_across-requires-clause-marking
add_across-requires-clause-marking c = c.runs.invariant.marks.marking

pub add_across-requires-clause-within : goal.add_across-requires-clause-within
add_across-requires-clause-within c = run_within c.args.arena.now.graph c.args.place.interval.0 c.runs_of-k-items.result.now (slice_index_or c.runs_of-k-items.result.now c.runs.k-index 0) c.runs_of-k-items.ensures.exactly (Contains-get_or c.runs_of-k-items.result.now c.runs.k-index 0 c.runs-test.true)

pub runs-preserved : goal.runs-preserved
runs-preserved c =
    let k : ℕ = slice_index_or c.runs_of-k-items.result.now c.runs.k-index 0 in
    let own : IsRunOf c.args.arena.now.graph c.args.place.interval.0 k = c.runs_of-k-items.ensures.exactly.only k (Contains-get_or c.runs_of-k-items.result.now c.runs.k-index 0 c.runs-test.true) in
    record {
      marks = marks_more c.args.arena.now.graph (IsJoinedTo c.args.arena.now.graph c.args.place) (IsAcross c.args.arena.now.graph k c.args.place.coord) (IsJoinedTo c.args.arena.now.graph c.args.place) c.args.self.now c.runs.self c.add_across.new.self
          (λ v q. q)
          (λ v a. (k, own, a))
          c.runs.invariant.marks c.in_ok-add_across.ensures.ok;
      all = more_of (λ n. (v : Place) → IsAcross c.args.arena.now.graph n c.args.place.coord v → Contains c.add_across.new.self.list.items v) c.runs_of-k-items.result.now c.runs.k-index c.runs-test.true
          (λ j n l h v a. marks_kept c.args.arena.now.graph (IsAcross c.args.arena.now.graph k c.args.place.coord) c.runs.self c.add_across.new.self c.in_ok-add_across.ensures.ok v (c.runs.invariant.all j n l h v a))
          c.in_ok-add_across.ensures.all;
    }

pub returns-clause-ok : goal.returns-clause-ok
returns-clause-ok c = c.runs.invariant.marks

pub returns-clause-all : goal.returns-clause-all
returns-clause-all c v (k, own, across) =
    let h : Contains c.runs_of-k-items.result.now k = c.runs_of-k-items.ensures.exactly.every k own in
    let w : h.0 < length c.runs_of-k-items.result.now = h.1 in
    c.runs.invariant.all h.0 k (omega (arith, w, c.runs-test.false)) (at_index c.runs_of-k-items.result.now k h) v across
