use Rattle.std.proofs.Common.{take, get_or, pos, arith, sym, subst, List}
use Rattle.std.proofs.lemmas.List.{take_more, take_all, get_or_default}
use Rattle.rt_base.specs.declared.walk.EntryKind.TheVariants.{Pin}
use Rattle.least_walk.specs.declared.graph.Stop.{Stop}
use Rattle.least_walk.specs.Flood.{AreKnown, Reaches}
use Rattle.least_walk.proofs.Flooding.{when_true, known_more}
use Rattle.least_walk.proofs.flood.Flood.start.Goals as goal

pub loop-target-preserved : goal.loop-target-preserved
loop-target-preserved g c =
    let none : Stop = record { entry = record { vertex = record { level = 0; point = record { x = pos 0; y = pos 0 } }; kind = Pin 0 }; cost = 0 } in
    let more = take_more c.args.targets.now c.loop-target.target-index none c.loop-target-test.true in
    let r = when_true {P = Reaches (g.G.Graph.vertices c.args.graph.now) c.args.met.now (get_or c.args.targets.now c.loop-target.target-index none).entry.vertex c.loop-target.self c.reach.new.self} _ c.if-not-branch.false (c.in_ok-reach.ensures _ c.loop-target.invariant.flood (c.requires.targets _ (c.loop-target.target-index, c.loop-target-test.true, get_or_default c.args.targets.now c.loop-target.target-index _ none c.loop-target-test.true))) in
    record {
      flood = r.grown.flood;
      known = subst (λ (ts : List Stop). AreKnown c.reach.new.self.reached ts) (sym more) (known_more (take c.loop-target.target-index c.args.targets.now) _ c.loop-target.self c.reach.new.self c.loop-target.invariant.known r.grown.grows r.has);
    }

pub returns : goal.returns
returns g c = record {
  flood = c.loop-target.invariant.flood;
  targets_in = subst (λ (ts : List Stop). AreKnown c.loop-target.self.reached ts) (take_all c.loop-target.target-index c.args.targets.now c.loop-target-test.false) c.loop-target.invariant.known;
  in_queue = omega arith;
  edges_in = λ k v e d lt at edge. absurd (omega (arith, lt));
}
