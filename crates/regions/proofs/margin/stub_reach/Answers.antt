use Rattle.std.proofs.Common.{◌∙◌, ◌≡◌, ◌+◌, max, ap, arith}
use Rattle.regions.specs.Halo.{IsStubReach, stub_of}
use Rattle.regions.proofs.Greatest.{Upto, greatest_start, greatest_next, greatest_same}
use Rattle.regions.proofs.margin.stub_reach.Goals as goal

pub loop-level-init : goal.loop-level-init
loop-level-init c = greatest_start (stub_of c.args.design.now)

pub loop-level-preserved : goal.loop-level-preserved
loop-level-preserved c =
    let sum : c.longest_stub.result + c.half_width.result ≡ stub_of c.args.design.now c.loop-level.level = omega (arith, c.longest_stub.ensures.is, c.half_width.ensures) in
    greatest_next (stub_of c.args.design.now) c.loop-level.level c.loop-level.most c.max-most.result (c.max-most.ensures ∙ ap (max c.loop-level.most) sum) c.loop-level.invariant

pub returns : goal.returns
returns c =
    greatest_same (Upto (stub_of c.args.design.now) c.loop-level.level) (IsStubReach c.args.design.now) c.loop-level.most
    (λ v h. (h.0, omega (arith, h.1, c.len-level-end.ensures, c.loop-level.auto.level-end, c.requires.tracks.step_levels), h.2))
    (λ v h. (h.0, omega (arith, h.1, c.len-level-end.ensures, c.loop-level-test.false, c.requires.tracks.step_levels), h.2)) c.loop-level.invariant
