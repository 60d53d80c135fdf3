use Rattle.least_walk.proofs.Running.{mid_from_sound, sound_only, fewer_open, best_only, best_improved}
use Rattle.least_walk.proofs.label.Search.step.Goals as goal

pub settle_next-requires : goal.settle_next-requires
settle_next-requires g c = record { filed = c.requires.underway.sound.filed }

pub returns-in_default-clause-underway : goal.returns-in_default-clause-underway
returns-in_default-clause-underway g c = record {
  sound = sound_only _ _ _ _ c.args.self.now c.settle_next.new.self c.requires.underway.sound c.in_default.ensures.only c.in_default.ensures.filed;
  is_best = best_only c.args.self.now c.settle_next.new.self _ _ c.requires.underway.is_best c.in_default.ensures.only;
}

pub expand-requires-clause-mid : goal.expand-requires-clause-mid
expand-requires-clause-mid g c = mid_from_sound _ _ _ _ c.args.self.now c.settle_next.new.self _ c.requires.underway.sound c.in-Some.ensures.some c.in-Some.ensures.filed

pub returns-clause-underway : goal.returns-clause-underway
returns-clause-underway g c = record {
  sound = c.in_ok-expand.ensures.sound;
  is_best = best_improved c.args.self.now c.settle_next.new.self c.expand.new.self _ _ _ _ c.requires.underway.is_best c.in-Some.ensures.some c.in-Some.ensures.filed c.improve.ensures c.in_ok-expand.ensures.extends;
}

pub returns-clause-fewer : goal.returns-clause-fewer
returns-clause-fewer g c = fewer_open _ _ _ _ c.args.self.now c.settle_next.new.self c.expand.new.self _ c.requires.underway.sound c.in-Some.ensures.some c.in-Some.ensures.filed c.in_ok-expand.ensures.extends c.in_ok-expand.ensures.sound
