use Rattle.std.proofs.Common.{◌&&◌, List, All, refl, sym, subst, ◌^◌}
use Rattle.std.specs.List.{list_any}
use Rattle.rt_base.specs.Ranges.{AreSidesWithin}
use Rattle.rt_base.specs.declared.tech.Shape.{Shape}
use Rattle.legality.specs.Forbidden.{is_near_at}
use Rattle.legality.proofs.FoundLemmas.{adds_none}
use Rattle.legality.proofs.RowLemmas.{hull_clear, hull_sides}
use Rattle.legality.proofs.band.Band.forbidden_into.Goals as goal

pub returns-then-is_clear_of : goal.returns-then-is_clear_of
returns-then-is_clear_of g c =
    rw (← c.self.view_is)
    (adds_none (λ z. list_any (λ s. g.T.ShapeTest.verdict c.args.test.now s && is_near_at c.args.mover.now s.rect z) c.self.inside.store.kept) c.args.found.now.items c.args.found.now.items refl
    (hull_clear (g.T.ShapeTest.verdict c.args.test.now) c.args.mover.now c.self.inside.hull c.self.inside.store.kept c.self.invariant (c.is_clear_of.ensures.0 c.if-is_clear_of.true)))

pub push_forbidden-requires-clause-shapes : goal.push_forbidden-requires-clause-shapes
push_forbidden-requires-clause-shapes g c =
    subst (λ (l : List Shape). All (λ (s : Shape). AreSidesWithin (2 ^ 61) s.rect) l) (sym c.as_slice.ensures) (hull_sides c.self.inside.hull c.self.inside.store.kept c.self.invariant)

pub returns : goal.returns
returns g c = rw (← c.self.view_is, ← c.as_slice.ensures) c.push_forbidden.ensures
