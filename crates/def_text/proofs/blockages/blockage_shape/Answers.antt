use Rattle.std.proofs.Common.{◌^◌, subst, sym, ◌∙◌, All, lit≤}
use Rattle.rt_base.specs.Geometry.{hull_of}
use Rattle.rt_base.specs.Ranges.{AreSidesWithin}
use Rattle.rt_base.proofs.Ranges.{hull_within, sides-weaker}
use Rattle.def_text.specs.Defs.{IsNameWord, IsMetal}
use Rattle.def_text.proofs.Listing.{All-one}
use Rattle.def_text.proofs.blockages.blockage_shape.Goals as goal
use Rattle.def_text.proofs.blockages.blockage_shape.Goals.{then-not-dropped+in_ok-new+in_ok-push, else-not-dropped}

pub returns-then-is-clause-sound : goal.returns-then-is-clause-sound
returns-then-is-clause-sound c =
    let small = sides-weaker (2 ^ 30) (2 ^ 31) (hull_of c.in_ok-p.p c.in_ok-q.q) (lit≤ tt) (hull_within (2 ^ 30) c.in_ok-p.p c.in_ok-q.q c.in_ok-p.ensures.small c.in_ok-q.ensures.small) in
    elim c.if-not-dropped.branch [
      | then-not-dropped+in_ok-new+in_ok-push w ↦
          subst (λ ms. All IsMetal ms) (sym (w.metal-is ∙ w.in_ok-push.ensures.ok))
          (All-one IsMetal c.args.metal.now (w.in_ok-new.field-0, w.hull.result) c.requires.metal
          (subst (λ n. IsNameWord n) (sym w.in_ok-new.ensures) c.requires.layer, subst (λ s. AreSidesWithin (2 ^ 31) s) (sym w.hull.ensures) small))
      | else-not-dropped w ↦ subst (λ ms. All IsMetal ms) (sym w.metal-is) c.requires.metal
    ]
