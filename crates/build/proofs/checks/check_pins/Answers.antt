use Rattle.std.proofs.Common.{◌∙◌, ap, sym}
use Rattle.build.specs.Faults.{rects_fault, pin_fault}
use Rattle.build.proofs.FirstFaults.{told_fault, first_at, none_more}
use Rattle.build.proofs.checks.check_pins.Goals as goal

pub returns-in_err-check_rects : goal.returns-in_err-check_rects
returns-in_err-check_rects c =
    told_fault c.from_residual.result c.in_err-check_rects.field-0.0 _ _ c.from_residual.ensures.1 c.in_err-check_rects.ensures
    (λ h. first_at (pin_fault c.args.layers.now) c.args.pins.now c.loop-pin.pin-index c.pin-item.result c.in_err-check_rects.field-0.0 c.loop-pin-test.true c.pin-item.is c.loop-pin.invariant
    (ap (rects_fault c.args.layers.now) (sym c.as_slice.ensures) ∙ h))

pub loop-pin-preserved : goal.loop-pin-preserved
loop-pin-preserved c =
    none_more (pin_fault c.args.layers.now) c.args.pins.now c.loop-pin.pin-index c.pin-item.result c.loop-pin-test.true c.pin-item.is c.loop-pin.invariant
    (ap (rects_fault c.args.layers.now) (sym c.as_slice.ensures) ∙ c.in_ok-check_rects.ensures)
