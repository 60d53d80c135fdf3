use Rattle.std.proofs.Common.{◌+◌, ◌^◌, subst, sym, lit≤}
use Rattle.rt_base.specs.Geometry.{hull_of}
use Rattle.rt_base.specs.Ranges.{AreSidesWithin}
use Rattle.rt_base.proofs.Ranges.{hull_within, sides-weaker}
use Rattle.def_wires.proofs.vias.via_rect.Goals as goal

pub returns-clause-sound : goal.returns-clause-sound
returns-clause-sound c =
    let small = hull_within (2 ^ 30) c.in_ok-p.p c.in_ok-q.q c.in_ok-p.ensures.small c.in_ok-q.ensures.small in
    (c.in_ok-layer.ensures.inside, subst (λ s. AreSidesWithin (2 ^ 60 + 2 ^ 30) s) (sym c.hull.ensures) (sides-weaker (2 ^ 30) (2 ^ 60 + 2 ^ 30) (hull_of c.in_ok-p.p c.in_ok-q.q) (lit≤ tt) small))
