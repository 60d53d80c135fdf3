use Rattle.std.proofs.Common.{ℕ, Contains, List, slice_index_or, subst, arith}
use Rattle.std.proofs.lemmas.List.Elements.{Contains-get_or}
use Rattle.interval_label.proofs.Costs.{inside_number}
use Rattle.interval_label.proofs.Improving.{improved_none, improved_more, improved_all}
use Rattle.interval_label.proofs.improve.improved.Goals as goal

pub row_of-row-requires : goal.row_of-row-requires
row_of-row-requires c = omega (arith, c.requires.stops.wide, inside_number c.args.arena.now.graph c.args.label.place c.requires.inside)

pub targets-init : goal.targets-init
targets-init c = improved_none c.args.arena.now.graph c.args.targets.now c.args.label c.args.number c.row_of-row.result.now c.args.best

pub offered-improved-requires-clause-within : goal.offered-improved-requires-clause-within
offered-improved-requires-clause-within c = c.requires.stops.only c.args.label.place.interval.0 (slice_index_or c.row_of-row.result.now c.targets.k-index 0) (subst (λ (r : List ℕ). Contains r (slice_index_or c.row_of-row.result.now c.targets.k-index 0)) c.row_of-row.ensures (Contains-get_or c.row_of-row.result.now c.targets.k-index 0 c.targets-test.true))

pub targets-preserved : goal.targets-preserved
targets-preserved c = improved_more c.args.arena.now.graph c.args.targets.now c.args.label c.args.number c.row_of-row.result.now c.targets.k-index c.args.best c.targets.improved c.offered-improved.result c.targets-test.true c.targets.invariant c.offered-improved.ensures

pub returns : goal.returns
returns c = improved_all c.args.arena.now.graph c.args.targets.now c.args.label c.args.number c.args.stops.now c.row_of-row.result.now c.targets.k-index c.args.best c.targets.improved c.requires.stops c.row_of-row.ensures c.targets-test.false c.targets.invariant
