use Rattle.std.proofs.Common.{◌≡◌, sym, ◌∙◌, to_z, of_z, w64}
use Rattle.std.proofs.lemmas.Int.{to_z-of_z}
use Rattle.rt_shapes.specs.Polygons.{toggled}
use Rattle.rt_shapes.proofs.Risings.{ascending-toggled}
use Rattle.rt_shapes.proofs.Searching.{toggled_where_missing, toggled_where_found}
use Rattle.rt_shapes.proofs.ascending.toggle.Goals as goal

pub returns-in-Ok-clause-exact : goal.returns-in-Ok-clause-exact
returns-in-Ok-clause-exact c =
    let z : to_z w64 (of_z w64 c.args.z) ≡ c.args.z = to_z-of_z w64 _ c.ranges.z in
    c.remove.ensures.items ∙ sym (toggled_where_found c.args.numbers.now.items c.args.z c.in-Ok.at c.requires (rw c.deref.ensures.value at c.in-Ok.ensures.bound) (rw (c.deref.ensures.value, z) at c.in-Ok.ensures.position))

pub returns-in_ok-insert-in-Err-clause-exact : goal.returns-in_ok-insert-in-Err-clause-exact
returns-in_ok-insert-in-Err-clause-exact c =
    let z : to_z w64 (of_z w64 c.args.z) ≡ c.args.z = to_z-of_z w64 _ c.ranges.z in
    (rw z at c.in_ok-insert-in-Err.ensures.items) ∙ sym (toggled_where_missing c.args.numbers.now.items c.args.z c.in-Err.at c.requires (rw c.deref.ensures.value at c.in-Err.ensures.bound) (rw (c.deref.ensures.value, z) at c.in-Err.ensures.position))

pub returns-in-Ok-clause-ascending : goal.returns-in-Ok-clause-ascending
returns-in-Ok-clause-ascending c =
    let e : c.remove.new.self.items ≡ toggled c.args.z c.args.numbers.now.items = returns-in-Ok-clause-exact c in
    rw e (ascending-toggled c.args.z c.args.numbers.now.items c.requires)

pub returns-in_ok-insert-in-Err-clause-ascending : goal.returns-in_ok-insert-in-Err-clause-ascending
returns-in_ok-insert-in-Err-clause-ascending c =
    let e : c.insert.new.self.items ≡ toggled c.args.z c.args.numbers.now.items = returns-in_ok-insert-in-Err-clause-exact c in
    rw e (ascending-toggled c.args.z c.args.numbers.now.items c.requires)
