use Rattle.std.proofs.Common.{◌^◌, ◌↔◌, List, All, Any, sym, subst}
use Rattle.std.proofs.lemmas.List.{take_all}
use Rattle.track_graph.specs.Metal.{Metal}
use Rattle.pin_access.specs.Bands.{IsNearBand}
use Rattle.pin_access.specs.DieTracks.{IsNearOn}
use Rattle.pin_access.specs.Nearby.{IsRect}
use Rattle.pin_access.proofs.CountLemmas.{bands_none, bands_more, bands_skip}
use Rattle.pin_access.proofs.counting.bands_on.Goals.{then-metal-level+in_ok-push, else-metal-level}
use Rattle.pin_access.proofs.counting.bands_on.Goals as goal
use Rattle.rt_base.specs.Ranges.{AreSidesWithin}

pub loop-metal-init : goal.loop-metal-init
loop-metal-init c = bands_none c.args.level.now c.args.rects.now c.new-bands.result.items c.new-bands.ensures.items

pub loop-metal-preserved : goal.loop-metal-preserved
loop-metal-preserved c =
    let l = c.args.level.now in
    let rects = c.args.rects.now in
    let i = c.loop-metal.metal-index in
    let m : Metal = c.metal-item.result in
    let old = c.loop-metal.bands.items in
    let within : AreSidesWithin (2 ^ 61) c.metal-item.result.1 = subst (λ (n : Metal). AreSidesWithin (2 ^ 61) n.1) (sym c.metal-item.is) (c.requires i m c.loop-metal-test.true) in
    elim c.if-metal-level.branch [
      | then-metal-level+in_ok-push w ↦ bands_more l rects i m c.ranges_of-ranges.result old c.if-metal-level.bands.items c.loop-metal-test.true c.metal-item.is (let s = w.bands-is in let e = w.in_ok-push.ensures.items in cc) c.ranges_of-ranges.ensures.value w.if-metal-level.true within (c.ranges_of-ranges.ensures.wide, c.ranges_of-ranges.ensures.tall) c.loop-metal.invariant
      | else-metal-level w ↦ bands_skip l rects i m old c.if-metal-level.bands.items c.loop-metal-test.true c.metal-item.is (let s = w.bands-is in cc) w.if-metal-level.false (c.ranges_of-ranges.ensures.wide, c.ranges_of-ranges.ensures.tall) c.loop-metal.invariant
    ]

pub returns-clause-near : goal.returns-clause-near
returns-clause-near c reach line z = subst (λ (ms : List Metal). Any (IsNearBand reach line z) c.loop-metal.bands.items ↔ Any (IsNearOn c.args.level.now reach line z) ms) (take_all c.loop-metal.metal-index c.args.rects.now c.loop-metal-test.false) (c.loop-metal.invariant.near reach line z)

pub returns-clause-bands : goal.returns-clause-bands
returns-clause-bands c = c.loop-metal.invariant.are_bands

pub returns-clause-rects : goal.returns-clause-rects
returns-clause-rects c = subst (λ (ms : List Metal). All (λ (m : Metal). IsRect m.1) ms) (take_all c.loop-metal.metal-index c.args.rects.now c.loop-metal-test.false) c.loop-metal.invariant.are_rects
