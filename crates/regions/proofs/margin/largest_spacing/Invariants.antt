use Rattle.rt_base.specs.Conflict.{largest_spacing}
use Rattle.regions.specs.Halo.{IsGreatest}
use Rattle.regions.proofs.Greatest.{Upto}
use Rattle.regions.proofs.margin.largest_spacing.Given as goal

abbrev pub invariant-loop-number : goal.invariant-loop-number
invariant-loop-number l = IsGreatest (Upto (λ k. largest_spacing l.design.tech (record { 0 = k })) l.number) l.most
