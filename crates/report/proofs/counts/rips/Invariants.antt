use Rattle.std.proofs.Common.{◌≡◌, ◌-◌, ◌*◌, ◌^◌, ◌≤◌, sum_by, take}
use Rattle.report.specs.Lines.{rips_of}
use Rattle.report.proofs.counts.rips.Given as goal

abbrev pub invariant-loop-block : goal.invariant-loop-block
invariant-loop-block l = record {
  sum : l.total ≡ sum_by rips_of (take l.block-index l.blocks);
  few : l.total ≤ l.block-index * (2 ^ 64 - 1);
}
