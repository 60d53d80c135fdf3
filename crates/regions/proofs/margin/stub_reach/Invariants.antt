use Rattle.regions.specs.Halo.{IsGreatest, stub_of}
use Rattle.regions.proofs.Greatest.{Upto}
use Rattle.regions.proofs.margin.stub_reach.Given as goal

abbrev pub invariant-loop-level : goal.invariant-loop-level
invariant-loop-level l = IsGreatest (Upto (stub_of l.design) l.level) l.most
