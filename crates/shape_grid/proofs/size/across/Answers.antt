use Rattle.std.proofs.Common.{◌≡◌, ◌/◌, ◌^◌, ◌-◌, ℕ, negsuc, ap, arith}
use Rattle.std.specs.Int.{int_gap}
use Rattle.std.proofs.lemmas.Int.{ints}
use Rattle.shape_grid.specs.Cells.{cell_of}
use Rattle.shape_grid.proofs.size.across.Goals as goal

pub returns-clause-first : goal.returns-clause-first
unfolding cell_of
returns-clause-first c =
    let gap : c.abs_diff.result ≡ int_gap (negsuc (2 ^ 63 - 1)) c.args.rect.now.xl = grind (arith, ints) in
    ap (λ (n : ℕ). n / 2 ^ c.args.shift) gap

pub returns-clause-last : goal.returns-clause-last
unfolding cell_of
returns-clause-last c =
    let gap : c.abs_diff-2.result ≡ int_gap (negsuc (2 ^ 63 - 1)) c.args.rect.now.xh = grind (arith, ints) in
    ap (λ (n : ℕ). n / 2 ^ c.args.shift) gap
