use Rattle.std.proofs.Common.{◌≡◌, ◌∙◌, ◌+◌, ◌^◌, ℤ, to_z, of_z, w64, subst, sym, ap, lit≤}
use Rattle.std.proofs.lemmas.Int.{to_z-of_z}
use Rattle.rt_base.specs.Sides.{Sides}
use Rattle.rt_base.specs.Geometry.{moved}
use Rattle.rt_base.specs.Orientations.{placed}
use Rattle.rt_base.specs.Ranges.{AreSidesWithin, IsWithin}
use Rattle.rt_base.proofs.Ranges.{sides-weaker, within-weaker, fits_from_within}
use Rattle.cells.proofs.Placing.{placed_within}
use Rattle.cells.proofs.places.placed_rect.Goals as goal

plain : (z : ℤ) → IsWithin (2 ^ 30) z → to_z w64 (of_z w64 z) ≡ z
plain z h = to_z-of_z w64 z (fits_from_within z (within-weaker (2 ^ 30) (2 ^ 61) z (lit≤ tt) h))

pub moved-requires-clause-rect : goal.moved-requires-clause-rect
moved-requires-clause-rect c =
    let m = c.args.of.now in
    let is : c.place.result ≡ placed c.args.orient m.w m.h c.args.rect.now.1 = c.place.ensures ∙ ap (λ (w : ℤ). placed c.args.orient w (to_z w64 (of_z w64 m.h)) c.args.rect.now.1) (plain m.w c.requires.w) ∙ ap (λ (h : ℤ). placed c.args.orient m.w h c.args.rect.now.1) (plain m.h c.requires.h) in
    subst (λ (s : Sides). AreSidesWithin (2 ^ 61) s) (sym is) (sides-weaker (2 ^ 30 + 2 ^ 31) (2 ^ 61) (placed c.args.orient m.w m.h c.args.rect.now.1) (lit≤ tt) (placed_within (2 ^ 30) (2 ^ 31) c.args.orient m.w m.h c.args.rect.now.1 c.requires.w c.requires.h c.requires.rect))

pub returns : goal.returns
returns c =
    let m = c.args.of.now in
    let is : c.place.result ≡ placed c.args.orient m.w m.h c.args.rect.now.1 = c.place.ensures ∙ ap (λ (w : ℤ). placed c.args.orient w (to_z w64 (of_z w64 m.h)) c.args.rect.now.1) (plain m.w c.requires.w) ∙ ap (λ (h : ℤ). placed c.args.orient m.w h c.args.rect.now.1) (plain m.h c.requires.h) in
    ap (λ (s : Sides). (c.args.rect.now.0, s)) (c.moved.ensures ∙ ap (moved c.args.at) is)
