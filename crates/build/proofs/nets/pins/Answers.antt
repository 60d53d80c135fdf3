use Rattle.std.proofs.Common.{ℕ, ◌+◌, List, All, take, sym, subst, arith}
use Rattle.std.specs.List.{AllZip, enumerate_from}
use Rattle.track_graph.specs.declared.design.Pin.{Pin}
use Rattle.track_graph.specs.Designs.{IsPin}
use Rattle.build.specs.Built.{IsPinOf}
use Rattle.build.specs.Ground.{input_on, system_on}
use Rattle.build.proofs.Steps.{numbered_more, numbered_count, numbered_all}
use Rattle.build.proofs.nets.pins.Goals as goal

pub loop-number-preserved : goal.loop-number-preserved
loop-number-preserved c =
    let g = system_on c.args.on.now in
    let said = IsPinOf (input_on c.args.on.now).lef (input_on c.args.on.now).def g in
    let all = c.args.connections.now in
    let i = c.loop-number.number in (
      subst (λ (ps : List Pin). AllZip said (enumerate_from 0 (take (i + 1) all)) ps) (sym c.in_ok-push.ensures.ok)
          (numbered_more said all i c.index-connections-number.result c.loop-number.pins c.in_ok-pin.field-0 c.loop-number-test.true c.index-connections-number.is c.loop-number.invariant.0 c.in_ok-pin.ensures.said),
      subst (λ (ps : List Pin). All (λ (p : ℕ × Pin). IsPin g p.0 p.1) (enumerate_from 0 ps)) (sym c.in_ok-push.ensures.ok)
          (numbered_all (λ (p : ℕ × Pin). IsPin g p.0 p.1) c.loop-number.pins c.in_ok-pin.field-0 i (numbered_count said all i c.loop-number.pins (omega arith) c.loop-number.invariant.0) c.loop-number.invariant.1 c.in_ok-pin.ensures.fits),
    )
