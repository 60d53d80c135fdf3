use Rattle.std.proofs.Common.{◌≡◌, inl, inr, ◌<◌, ◌≤◌, ℕ, ℤ, List, length, slice_get, slice_index_or, Contains, sym, ap, ◌∙◌, subst, arith, ⊎_elim}
use Rattle.std.proofs.lemmas.Bool.{cases_lt}
use Rattle.std.proofs.lemmas.Option.{same_Some, slice_get_within}
use Rattle.label_arena.specs.declared.place.Run.{Run}
use Rattle.label_arena.specs.Marks.{IsRunEnd}
use Rattle.interval_label.specs.Known.{Marks, IsAcross}
use Rattle.interval_label.proofs.MarkList.{marks_same, marks_more, marks_kept, across_end, way_across}
use Rattle.interval_label.proofs.marking.Marking.add_runs.Goals as goal

pub runs-init : goal.runs-init
runs-init c = record { marks = marks_same c.args.arena.now.graph (IsRunEnd c.args.arena.now.graph) c.args.self.now c.requires.marking; all = λ j run v l. absurd (omega (arith, l)) }

pub run_of-run-requires : goal.run_of-run-requires
run_of-run-requires c =
    let n : slice_index_or c.counts-counts.result 2 0 ≡ length c.args.arena.now.graph.runs = ap (λ (xs : List ℕ). slice_index_or xs 2 0) c.counts-counts.ensures.counts in
    omega (arith, n, c.runs-test.true)

pub add_across-requires-clause-within : goal.add_across-requires-clause-within
add_across-requires-clause-within c =
    let n : slice_index_or c.counts-counts.result 2 0 ≡ length c.args.arena.now.graph.runs = ap (λ (xs : List ℕ). slice_index_or xs 2 0) c.counts-counts.ensures.counts in
    omega (arith, n, c.runs-test.true)

pub add_across-requires-in-runs-clause-within : goal.add_across-requires-in-runs-clause-within
add_across-requires-in-runs-clause-within c =
    let n : slice_index_or c.counts-counts.result 2 0 ≡ length c.args.arena.now.graph.runs = ap (λ (xs : List ℕ). slice_index_or xs 2 0) c.counts-counts.ensures.counts in
    omega (arith, n, c.runs-test.true)

pub add_across-requires-clause-marking : goal.add_across-requires-clause-marking
add_across-requires-clause-marking c = c.runs.invariant.marks.marking

pub add_across-requires-in-runs-clause-marking : goal.add_across-requires-in-runs-clause-marking
add_across-requires-in-runs-clause-marking c = c.in_ok-add_across.ensures.ok.marking

pub runs-preserved : goal.runs-preserved
runs-preserved c =
    let r : Run = c.run_of-run.result in
    let first : Marks c.args.arena.now.graph (IsRunEnd c.args.arena.now.graph) c.args.self.now c.add_across.new.self = marks_more c.args.arena.now.graph (IsRunEnd c.args.arena.now.graph) (IsAcross c.args.arena.now.graph c.runs.k c.low_end.result.coord) (IsRunEnd c.args.arena.now.graph) c.args.self.now c.runs.self c.add_across.new.self
    (λ v q. q)
    (λ v h. across_end c.args.arena.now.graph c.runs.k c.run_of-run.result c.low_end.result.coord v c.run_of-run.ensures (inl c.low_end.ensures) h)
    c.runs.invariant.marks c.in_ok-add_across.ensures.ok in
    record {
      marks = marks_more c.args.arena.now.graph (IsRunEnd c.args.arena.now.graph) (IsAcross c.args.arena.now.graph c.runs.k c.high_end.result.coord) (IsRunEnd c.args.arena.now.graph) c.args.self.now c.add_across.new.self c.add_across-in-runs.new.self
          (λ v q. q)
          (λ v h. across_end c.args.arena.now.graph c.runs.k c.run_of-run.result c.high_end.result.coord v c.run_of-run.ensures (inr c.high_end.ensures) h)
          first c.in_ok-add_across-2.ensures.ok;
      all = λ j run v l h. ⊎_elim
          (λ (l : j < c.runs.k).
          let o = c.runs.invariant.all j run v l h in
          let kept : Contains c.runs.self.list.items v → Contains c.add_across-in-runs.new.self.list.items v = (λ x. marks_kept c.args.arena.now.graph (IsAcross c.args.arena.now.graph c.runs.k c.high_end.result.coord) c.add_across.new.self c.add_across-in-runs.new.self c.in_ok-add_across-2.ensures.ok v (marks_kept c.args.arena.now.graph (IsAcross c.args.arena.now.graph c.runs.k c.low_end.result.coord) c.runs.self c.add_across.new.self c.in_ok-add_across.ensures.ok v x)) in
          (λ a. kept (o.0 a), λ a. kept (o.1 a)))
          (λ (m : c.runs.k ≤ j).
          let e : c.runs.k ≡ j = omega (arith, l) in
          let same : c.run_of-run.result ≡ run = same_Some c.run_of-run.result run (sym c.run_of-run.ensures ∙ ap (slice_get c.args.arena.now.graph.runs) e ∙ h) in
          let lo : run.span.lo ≡ c.low_end.result.coord = sym (c.low_end.ensures ∙ ap (λ (z : Run). z.span.lo) same) in
          let hi : run.span.hi ≡ c.high_end.result.coord = sym (c.high_end.ensures ∙ ap (λ (z : Run). z.span.hi) same) in (
            λ a. marks_kept c.args.arena.now.graph (IsAcross c.args.arena.now.graph c.runs.k c.high_end.result.coord) c.add_across.new.self c.add_across-in-runs.new.self c.in_ok-add_across-2.ensures.ok v (c.in_ok-add_across.ensures.all v (subst (λ (n : ℕ). IsAcross c.args.arena.now.graph n c.low_end.result.coord v) (sym e) (subst (λ (z : ℤ). IsAcross c.args.arena.now.graph j z v) lo a))),
            λ a. c.in_ok-add_across-2.ensures.all v (subst (λ (n : ℕ). IsAcross c.args.arena.now.graph n c.high_end.result.coord v) (sym e) (subst (λ (z : ℤ). IsAcross c.args.arena.now.graph j z v) hi a)),
          ))
          (cases_lt j c.runs.k);
    }

pub returns-clause-ok : goal.returns-clause-ok
returns-clause-ok c = c.runs.invariant.marks

pub returns-clause-all : goal.returns-clause-all
returns-clause-all c v h =
    let n : slice_index_or c.counts-counts.result 2 0 ≡ length c.args.arena.now.graph.runs = ap (λ (xs : List ℕ). slice_index_or xs 2 0) c.counts-counts.ensures.counts in
    let w : h.0 < length c.args.arena.now.graph.runs = slice_get_within c.args.arena.now.graph.runs h.0 h.3.run h.3.at in
    let both = c.runs.invariant.all h.0 h.3.run v (omega (arith, n, w, c.runs-test.false)) h.3.at in
    let here : IsAcross c.args.arena.now.graph h.0 v.coord v = (way_across c.args.arena.now.graph h.0 v h.1 h.2 h.3).0 in
    ⊎_elim
    (λ (e : v.coord ≡ h.3.run.span.lo). both.0 (subst (λ (z : ℤ). IsAcross c.args.arena.now.graph h.0 z v) e here))
    (λ (e : v.coord ≡ h.3.run.span.hi). both.1 (subst (λ (z : ℤ). IsAcross c.args.arena.now.graph h.0 z v) e here))
    h.4
