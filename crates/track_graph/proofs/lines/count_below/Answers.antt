use Rattle.std.proofs.Common.{int_lt, rules, arith}
use Rattle.std.proofs.lemmas.Int.{ints, to_z-of_z}
use Rattle.std.proofs.lemmas.List.Sorted.{IsPartitionPoint-from_clause}
use Rattle.track_graph.proofs.LineLemmas.{parted_below, parts_at}
use Rattle.track_graph.proofs.lines.count_below.Goals as goal

pub returns-clause-parts : goal.returns-clause-parts
returns-clause-parts c = parts_at _ c.args.bound _ (IsPartitionPoint-from_clause (λ y. int_lt y c.args.bound) _ _ c.partition_point.ensures.partitioned (parted_below _ _ c.requires) (λ a r f called. (first_of (search rules, search (rules, ints), grind (arith, ints, to_z-of_z)), search rules)))
