use Rattle.std.proofs.Common.{◌^◌, ℕ, ℤ, ◌≤ℤ◌, pos, sym, ◌∙◌, ap, subst, w64, arith}
use Rattle.std.proofs.lemmas.Int.{to_z_pos, ints}
use Rattle.plain_route.proofs.TouchLemmas.{spacing_small}
use Rattle.plain_route.proofs.clash.reach.Goals as goal

pub overflow_cast-result : goal.overflow_cast-result
overflow_cast-result c = let h = spacing_small c.args.tech.now c.args.layer c.requires.tech in let e = c.largest_spacing.ensures in grind (arith, ints)

pub returns-clause-value : goal.returns-clause-value
returns-clause-value c =
    let h = spacing_small c.args.tech.now c.args.layer c.requires.tech in
    to_z_pos w64 c.largest_spacing.result (omega (arith, h, c.largest_spacing.ensures)) ∙ ap (λ (k : ℕ). pos k) c.largest_spacing.ensures

pub returns-clause-small : goal.returns-clause-small
returns-clause-small c =
    let h = spacing_small c.args.tech.now c.args.layer c.requires.tech in
    let e = c.largest_spacing.ensures in
    subst (λ (z : ℤ). z ≤ℤ pos (2 ^ 32)) (sym (to_z_pos w64 c.largest_spacing.result (omega (arith, h, e)))) (grind (arith, ints))
