use Rattle.std.proofs.Common.{◌∙◌, max, ap, arith}
use Rattle.rt_base.specs.Conflict.{largest_spacing}
use Rattle.regions.specs.Halo.{IsSpacing}
use Rattle.regions.proofs.Greatest.{Upto, greatest_start, greatest_next, greatest_same}
use Rattle.regions.proofs.margin.largest_spacing.Goals as goal

pub loop-number-init : goal.loop-number-init
loop-number-init c = greatest_start (λ k. largest_spacing c.args.design.now.tech (record { 0 = k }))

pub loop-number-preserved : goal.loop-number-preserved
loop-number-preserved c =
    greatest_next (λ k. largest_spacing c.args.design.now.tech (record { 0 = k })) c.loop-number.number c.loop-number.most c.max-most.result (c.max-most.ensures ∙ ap (max c.loop-number.most) c.largest_spacing.ensures) c.loop-number.invariant

pub returns : goal.returns
returns c =
    greatest_same (Upto (λ k. largest_spacing c.args.design.now.tech (record { 0 = k })) c.loop-number.number) (IsSpacing c.args.design.now) c.loop-number.most
    (λ v h. (record { 0 = h.0 }, omega (arith, h.1, c.len-number-end.ensures, c.loop-number.auto.number-end), h.2))
    (λ v h. (h.0.0, omega (arith, h.1, c.len-number-end.ensures, c.loop-number-test.false), h.2)) c.loop-number.invariant
