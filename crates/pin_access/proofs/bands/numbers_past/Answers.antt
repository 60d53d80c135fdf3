use Rattle.std.proofs.Common.{◌≡◌, to_z, of_z, w64}
use Rattle.std.specs.List.Sorted.{IsPartitionPoint}
use Rattle.std.proofs.Common.{◌≤ℤ◌, ◌<ℤ◌, ℤ}
use Rattle.std.proofs.lemmas.Int.{to_z-of_z}
use Rattle.std.proofs.lemmas.List.{take_rest}
use Rattle.pin_access.proofs.Sweeping.{contains_after, drop_ascending}
use Rattle.pin_access.proofs.bands.numbers_past.Goals as goal

pub returns-clause-ascending : goal.returns-clause-ascending
returns-clause-ascending c = rw (take_rest c.args.numbers.now c.count_up_to.result) (drop_ascending c.args.numbers.now c.count_up_to.result c.requires)

pub returns-clause-those : goal.returns-clause-those
returns-clause-those c =
    let bound : to_z w64 (of_z w64 c.args.bound) ≡ c.args.bound = to_z-of_z w64 _ c.ranges.bound in
    let parts : IsPartitionPoint (λ (y : ℤ). y ≤ℤ c.args.bound) (λ (y : ℤ). c.args.bound <ℤ y) c.args.numbers.now c.count_up_to.result = rw bound at c.count_up_to.ensures.parts in
    λ z. rw (take_rest c.args.numbers.now c.count_up_to.result) (contains_after c.args.numbers.now c.args.bound c.count_up_to.result z parts)
