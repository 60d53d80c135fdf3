use Rattle.std.proofs.Common.{◌≡◌, ◌↔◌, List, Any, take, to_z, of_z, w64, subst}
use Rattle.std.proofs.lemmas.Int.{to_z-of_z}
use Rattle.std.proofs.lemmas.List.{take_all}
use Rattle.pin_access.specs.declared.bands.Band.{Band}
use Rattle.pin_access.specs.Bands.{IsIn, IsNearBand}
use Rattle.pin_access.proofs.Banding.{spans_more, spans_skip}
use Rattle.pin_access.proofs.bands.near_spans.Goals as goal
use Rattle.pin_access.proofs.bands.near_spans.Goals.{in-Some+in_ok-push-in-Some, in-None}

pub loop-band-preserved : goal.loop-band-preserved
loop-band-preserved c z =
    let line = to_z w64 (of_z w64 c.args.line) in
    elim c.match-near_span.branch [
      | in-Some+in_ok-push-in-Some w ↦ spans_more c.args.reach line z c.args.bands.now c.loop-band.band-index _ c.loop-band.spans.items c.match-near_span.spans.items w.in-Some.span c.loop-band-test.true (let s = w.spans-is in let e = w.in_ok-push-in-Some.ensures.items in cc) (w.in-Some.ensures z) (c.loop-band.invariant z)
      | in-None w ↦ spans_skip c.args.reach line z c.args.bands.now c.loop-band.band-index _ c.loop-band.spans.items c.match-near_span.spans.items c.loop-band-test.true (let s = w.spans-is in cc) (w.in-None.ensures z) (c.loop-band.invariant z)
    ]

pub returns : goal.returns
returns c z =
    let line : to_z w64 (of_z w64 c.args.line) ≡ c.args.line = to_z-of_z w64 _ c.ranges.line in
    let all : take c.loop-band.band-index c.args.bands.now ≡ c.args.bands.now = take_all _ _ c.loop-band-test.false in
    let last : Any (IsIn z) c.loop-band.spans.items ↔ Any (IsNearBand c.args.reach c.args.line z) (take c.loop-band.band-index c.args.bands.now) = rw line at (c.loop-band.invariant z) in
    subst (λ (bs : List Band). Any (IsIn z) c.loop-band.spans.items ↔ Any (IsNearBand c.args.reach c.args.line z) bs) all last
