use Rattle.std.proofs.Common.{arith}
use Rattle.std.proofs.lemmas.Bool.{leb-true}
use Rattle.least_walk.proofs.Flooding.{on_true, no_route}
use Rattle.least_walk.proofs.flood.Flood.is_cut_off.Goals as goal

pub returns-then-place-len : goal.returns-then-place-len
returns-then-place-len g c = no_route _ _ _ _ _ c.requires.graph c.loop-place.place c.loop-place.self c.loop-place.invariant (omega (arith, c.if-place-len.true, c.len.ensures)) c.args.sources.now c.requires.sources c.requires.met

pub returns : goal.returns
returns g c = on_true _ (λ e. no_route _ _ _ _ _ c.requires.graph c.loop-place.place c.loop-place.self c.loop-place.invariant (omega (arith, leb-true _ _ e, c.len-2.ensures, c.loop-place-test.false)) c.args.sources.now c.requires.sources c.requires.met)
