use Rattle.std.proofs.Common.{rules}
use Rattle.std.proofs.lemmas.List.Sorted.{answers_always}
use Rattle.rt_base.specs.declared.geometry.Point.{Point}
use Rattle.rt_shapes.proofs.SweepLemmas.{rising-sorted}
use Rattle.rt_shapes.proofs.rows.turns.Goals as goal

pub returns-clause-rising : goal.returns-clause-rising
returns-clause-rising c = rising-sorted _ (c.sort_unstable_by_key.ensures.sorted (λ (p : Point). p.y) (answers_always _ _ _ (λ f a r g h. search rules)))
