use Rattle.std.proofs.Common.{subst, sym, All}
use Rattle.def_text.specs.Defs.{IsMetal}
use Rattle.def_text.specs.Pins.{placed_metal}
use Rattle.def_text.proofs.Listing.{All-one, mapped_more}
use Rattle.def_text.proofs.pins.add_placed.Goals as goal

pub metal-preserved : goal.metal-preserved
metal-preserved c = record {
  value = mapped_more (placed_metal c.args.at c.args.orient) c.args.rects.now c.metal.rects c.push.new.self c.args.metal.now c.metal.one-index c.one-item.result c.in_ok-placed_metal.field-0
      c.in_ok-push.ensures.ok c.metal.invariant.value c.in_ok-placed_metal.ensures.value c.one-item.is c.metal-test.true;
  small = subst (λ ms. All IsMetal ms) (sym c.in_ok-push.ensures.ok) (All-one IsMetal c.metal.rects c.in_ok-placed_metal.field-0 c.metal.invariant.small c.in_ok-placed_metal.ensures.small);
}
