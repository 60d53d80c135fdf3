use Rattle.std.proofs.Common.{◌≡◌, sym, ◌∙◌, to_z, of_z, w64}
use Rattle.std.proofs.lemmas.Int.{to_z-of_z}
use Rattle.rt_shapes.specs.Polygons.{with_number}
use Rattle.rt_shapes.proofs.Risings.{ascending-with_number}
use Rattle.rt_shapes.proofs.Searching.{put_where_missing, put_where_found}
use Rattle.rt_shapes.proofs.ascending.put.Goals as goal

pub returns-in_ok-insert-clause-exact : goal.returns-in_ok-insert-clause-exact
returns-in_ok-insert-clause-exact c =
    let z : to_z w64 (of_z w64 c.args.z) ≡ c.args.z = to_z-of_z w64 _ c.ranges.z in
    (rw z at c.in_ok-insert.ensures.items) ∙ sym (put_where_missing c.args.numbers.now.items c.args.z c.in-Err.at c.requires (rw c.deref.ensures.value at c.in-Err.ensures.bound) (rw (c.deref.ensures.value, z) at c.in-Err.ensures.position))

pub returns-in_ok-insert-clause-ascending : goal.returns-in_ok-insert-clause-ascending
returns-in_ok-insert-clause-ascending c =
    let e : c.insert.new.self.items ≡ with_number c.args.z c.args.numbers.now.items = returns-in_ok-insert-clause-exact c in
    rw e (ascending-with_number c.args.z c.args.numbers.now.items c.requires)

pub returns-in_default-clause-exact : goal.returns-in_default-clause-exact
returns-in_default-clause-exact c =
    let z : to_z w64 (of_z w64 c.args.z) ≡ c.args.z = to_z-of_z w64 _ c.ranges.z in
    sym (put_where_found c.args.numbers.now.items c.args.z c.in_default.field-0 c.requires (rw c.deref.ensures.value at c.in_default.ensures.bound) (rw (c.deref.ensures.value, z) at c.in_default.ensures.position))
