use Rattle.std.proofs.Common.{◌^◌, subst, sym, pos, lit≤, ◌∙◌}
use Rattle.rt_base.specs.Orientations.{placed}
use Rattle.rt_base.specs.Ranges.{AreSidesWithin}
use Rattle.rt_base.proofs.Ranges.{sides-weaker}
use Rattle.def_text.specs.Defs.{IsNameWord}
use Rattle.def_text.proofs.Placing.{placed_within, moved_within}
use Rattle.def_text.proofs.pins.placed_metal.Goals as goal

pub place-requires-clause-rect : goal.place-requires-clause-rect
place-requires-clause-rect c = sides-weaker (2 ^ 30) (2 ^ 61) c.args.metal.now.1 (lit≤ tt) c.requires.metal.1

pub moved-rect-requires-clause-rect : goal.moved-rect-requires-clause-rect
moved-rect-requires-clause-rect c = subst (λ s. AreSidesWithin (2 ^ 61) s) (sym c.place.ensures) (sides-weaker (2 ^ 30) (2 ^ 61) (placed c.args.orient (pos 0) (pos 0) c.args.metal.now.1) (lit≤ tt) (placed_within (2 ^ 30) c.args.orient c.args.metal.now.1 c.requires.metal.1))

pub returns-clause-small : goal.returns-clause-small
returns-clause-small c =
    let placed_small : AreSidesWithin (2 ^ 30) c.place.result = subst (λ s. AreSidesWithin (2 ^ 30) s) (sym c.place.ensures) (placed_within (2 ^ 30) c.args.orient c.args.metal.now.1 c.requires.metal.1) in
    (subst (λ n. IsNameWord n) (sym (c.in_ok-new.ensures ∙ c.bytes.ensures)) c.requires.metal.0, subst (λ s. AreSidesWithin (2 ^ 31) s) (sym c.moved-rect.ensures) (moved_within (2 ^ 30) c.args.at c.place.result c.requires.at placed_small))
