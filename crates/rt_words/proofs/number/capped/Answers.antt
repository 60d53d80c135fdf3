use Rattle.std.proofs.Common.{ℕ, min, ◌*◌, ◌+◌, ap, ◌∙◌}
use Rattle.rt_words.proofs.Digits.{next_value}
use Rattle.rt_words.proofs.number.capped.Goals as goal

pub loop-d-preserved : goal.loop-d-preserved
loop-d-preserved c =
    let next = next_value c.args.digits.now c.loop-d.d-index c.loop-d.n c.requires c.loop-d-test.true c.loop-d.invariant in
    c.min-n.ensures ∙ ap (λ (x : ℕ). min (c.loop-d.n * 10 + x) 2147483648) c.from.ensures ∙ next
