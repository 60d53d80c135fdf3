use Rattle.build.specs.Faults.{guide_fault}
use Rattle.build.proofs.FirstFaults.{told_fault, first_at, none_more}
use Rattle.build.proofs.checks.check_entries.Goals as goal

pub returns-in_err-check_guide : goal.returns-in_err-check_guide
returns-in_err-check_guide c =
    told_fault c.from_residual.result c.in_err-check_guide.field-0.0 _ _ c.from_residual.ensures.1 c.in_err-check_guide.ensures
    (λ h. first_at (guide_fault c.args.known.now.layers c.args.known.now.nets) c.args.guides.now c.loop-guide.guide-index c.guide-item.result c.in_err-check_guide.field-0.0 c.loop-guide-test.true c.guide-item.is c.loop-guide.invariant h)

pub loop-guide-preserved : goal.loop-guide-preserved
loop-guide-preserved c =
    none_more (guide_fault c.args.known.now.layers c.args.known.now.nets) c.args.guides.now c.loop-guide.guide-index c.guide-item.result c.loop-guide-test.true c.guide-item.is c.loop-guide.invariant c.in_ok-check_guide.ensures
