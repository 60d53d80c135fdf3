use Rattle.std.proofs.Common.{◌≡◌, ◌<◌, ◌≤◌, ℕ, List, length, slice_get, slice_index_or, sym, ap, ◌∙◌, subst, arith, ⊎_elim}
use Rattle.std.proofs.lemmas.Bool.{cases_lt}
use Rattle.std.proofs.lemmas.Option.{same_Some, slice_get_within}
use Rattle.label_arena.specs.declared.place.Run.{Run}
use Rattle.label_arena.specs.Plain.{factor_at}
use Rattle.interval_label.proofs.MarkList.{run_numbers}
use Rattle.interval_label.proofs.even.is_even.Goals as goal

pub run_of-run-requires : goal.run_of-run-requires
run_of-run-requires c =
    let n : slice_index_or c.counts-counts.result 2 0 ≡ length c.args.arena.now.graph.runs = ap (λ (xs : List ℕ). slice_index_or xs 2 0) c.counts-counts.ensures.counts in
    omega (arith, n, c.runs-test.true)

pub factor-near-requires : goal.factor-near-requires
factor-near-requires c = (run_numbers c.args.arena.now.graph c.runs.k c.run_of-run.result c.requires c.run_of-run.ensures).0

pub factor-far-requires : goal.factor-far-requires
factor-far-requires c = (run_numbers c.args.arena.now.graph c.runs.k c.run_of-run.result c.requires c.run_of-run.ensures).1

pub runs-preserved : goal.runs-preserved
runs-preserved c j run l h = ⊎_elim
    (λ (l : j < c.runs.k). c.runs.invariant j run l h)
    (λ (m : c.runs.k ≤ j).
    let e : c.runs.k ≡ j = omega (arith, l) in
    let same : c.run_of-run.result ≡ run = same_Some c.run_of-run.result run (sym c.run_of-run.ensures ∙ ap (slice_get c.args.arena.now.graph.runs) e ∙ h) in
    subst (λ (r : Run). factor_at c.args.arena.now.graph r.a.0 ≡ factor_at c.args.arena.now.graph r.b.0) same (sym c.factor-near.ensures ∙ c.if-near-far.false ∙ c.factor-far.ensures))
    (cases_lt j c.runs.k)

pub returns : goal.returns
returns c k run h =
    let n : slice_index_or c.counts-counts.result 2 0 ≡ length c.args.arena.now.graph.runs = ap (λ (xs : List ℕ). slice_index_or xs 2 0) c.counts-counts.ensures.counts in
    let w : k < length c.args.arena.now.graph.runs = slice_get_within c.args.arena.now.graph.runs k run h in
    c.runs.invariant k run (omega (arith, n, w, c.runs-test.false)) h
