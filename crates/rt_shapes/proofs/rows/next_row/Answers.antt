use Rattle.std.proofs.Common.{◌≡◌, ◌%◌, IfOk, ℤ, ℕ, List, count_by, subst, sym, ap}
use Rattle.std.specs.List.Sorted.{IsPermutation}
use Rattle.rt_shapes.proofs.SweepLemmas.{count-turned}
use Rattle.rt_shapes.proofs.rows.next_row.Goals as goal

pub returns-clause-parity : goal.returns-clause-parity
returns-clause-parity c = λ p.
    let moved = subst (λ (l : List ℤ). IsPermutation c.in_ok-all.all.items l) (sym c.as_slice.ensures.value) c.sort_unstable.ensures.permutation in
    let all = count-turned p c.args.xs.now c.as_slice.result.now c.args.turns.now (subst (λ (l : List ℤ). IsPermutation l c.as_slice.result.now) c.in_ok-all.ensures moved) in
    subst (λ (n : ℕ). IfOk c.odd_ones.result (λ v. count_by p v.items % 2 ≡ n)) (ap (λ (n : ℕ). n % 2) all) (c.odd_ones.ensures.parity p)
