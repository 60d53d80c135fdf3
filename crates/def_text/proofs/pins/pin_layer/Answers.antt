use Rattle.std.proofs.Common.{◌^◌, subst, sym, All}
use Rattle.rt_base.specs.Ranges.{AreSidesWithin}
use Rattle.rt_base.proofs.Ranges.{hull_within}
use Rattle.def_text.specs.Defs.{IsNameWord}
use Rattle.def_text.specs.Pins.{IsUnplaced}
use Rattle.def_text.proofs.Listing.{All-one}
use Rattle.def_text.proofs.pins.pin_layer.Goals as goal

pub returns-clause-sound : goal.returns-clause-sound
returns-clause-sound c =
    let named = subst (λ n. IsNameWord n) (sym c.in_ok-layer-2.ensures) c.in_ok-layer.ensures.name in
    let small = subst (λ s. AreSidesWithin (2 ^ 30) s) (sym c.hull.ensures) (hull_within (2 ^ 30) c.in_ok-p.p c.in_ok-q.q c.in_ok-p.ensures.small c.in_ok-q.ensures.small) in
    record {
      rects = c.requires.rects;
      metal = subst (λ ms. All IsUnplaced ms) (sym c.in_ok-push.ensures.ok) (All-one IsUnplaced c.args.ports.now.metal (c.in_ok-layer-2.layer, c.hull.result) c.requires.metal (named, small));
      placed = c.requires.placed;
    }
