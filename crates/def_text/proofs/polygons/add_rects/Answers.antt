use Rattle.std.proofs.Common.{◌^◌, subst, sym, ap, All, lit≤}
use Rattle.rt_base.specs.Sides.{Sides}
use Rattle.rt_base.specs.Ranges.{AreSidesWithin}
use Rattle.rt_base.proofs.Ranges.{sides-weaker}
use Rattle.def_text.specs.Defs.{IsNameWord, IsMetal}
use Rattle.def_text.proofs.Listing.{All-one, mapped_more}
use Rattle.def_text.proofs.polygons.add_rects.Goals as goal

pub rects-preserved : goal.rects-preserved
rects-preserved c =
    let one : AreSidesWithin (2 ^ 30) c.rect-item.result = subst (λ s. AreSidesWithin (2 ^ 30) s) (sym c.rect-item.is) (c.requires.rects c.rects.rect-index c.rect-item.result c.rects-test.true) in
    let small = sides-weaker (2 ^ 30) (2 ^ 31) c.rect-item.result (lit≤ tt) one in
    let named = subst (λ n. IsNameWord n) (sym c.in_ok-new.ensures) c.requires.layer in
    record {
      value = mapped_more (λ (sides : Sides). (c.args.layer.now, sides)) c.args.metal.now c.rects.metal c.push.new.self c.args.rects.now c.rects.rect-index c.rect-item.result (c.in_ok-new.field-0, c.rect-item.result)
          c.in_ok-push.ensures.ok c.rects.invariant.value (ap (λ n. (n, c.rect-item.result)) c.in_ok-new.ensures) c.rect-item.is c.rects-test.true;
      sound = subst (λ ms. All IsMetal ms) (sym c.in_ok-push.ensures.ok) (All-one IsMetal c.rects.metal (c.in_ok-new.field-0, c.rect-item.result) c.rects.invariant.sound (named, small));
    }
