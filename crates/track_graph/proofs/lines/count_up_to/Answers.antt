use Rattle.std.proofs.Common.{not, int_lt, rules, arith}
use Rattle.std.proofs.lemmas.Int.{ints, to_z-of_z}
use Rattle.std.proofs.lemmas.List.Sorted.{IsPartitionPoint-from_clause}
use Rattle.track_graph.proofs.GraphLemmas.{partitioned_by_bound, partition_point_is}
use Rattle.track_graph.proofs.lines.count_up_to.Goals as goal

pub returns-clause-parts : goal.returns-clause-parts
returns-clause-parts c = partition_point_is _ c.args.bound _ (IsPartitionPoint-from_clause (λ y. not (int_lt c.args.bound y)) _ _ c.partition_point.ensures.partitioned (partitioned_by_bound _ _ c.requires) (λ a r f called. (first_of (search rules, search (rules, ints), grind (arith, ints, to_z-of_z)), search rules)))
