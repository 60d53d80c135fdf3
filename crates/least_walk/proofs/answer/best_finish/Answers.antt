use Rattle.least_walk.proofs.Running.{sound_from_start, best_none}
use Rattle.least_walk.proofs.Answering.{least_found, none_found, sources_known}
use Rattle.least_walk.proofs.Flooding.{when_true}
use Rattle.least_walk.proofs.answer.best_finish.Goals as goal

pub try_run-requires-clause-underway : goal.try_run-requires-clause-underway
try_run-requires-clause-underway g c = record { sound = sound_from_start _ _ _ _ _ _ _ _ c.in_ok-start.ensures; is_best = best_none _ _ c.in_ok-start.ensures.none_settled }

pub returns-then-branch-clause-least : goal.returns-then-branch-clause-least
returns-then-branch-clause-least g c = least_found _ _ _ _ _ c.requires.graph c.requires.sources c.requires.targets _ _ c.in_ok-try_run.ensures.underway (when_true _ c.if-branch.true c.in_ok-try_run.ensures.done)

pub returns-then-branch-clause-none : goal.returns-then-branch-clause-none
returns-then-branch-clause-none g c = none_found _ _ _ _ _ c.requires.graph c.requires.sources c.requires.targets c.try_run.new.self _ c.in_ok-try_run.ensures.underway (when_true _ c.if-branch.true c.in_ok-try_run.ensures.done)

pub is_cut_off-requires-clause-met : goal.is_cut_off-requires-clause-met
is_cut_off-requires-clause-met g c = sources_known _ _ _ _ c.try_run.new.self c.in_ok-try_run.ensures.underway.sound

pub returns-clause-least : goal.returns-clause-least
returns-clause-least g c = least_found _ _ _ _ _ c.requires.graph c.requires.sources c.requires.targets _ _ c.in_ok-run.ensures.underway c.in_ok-run.ensures.done

pub returns-clause-none : goal.returns-clause-none
returns-clause-none g c = none_found _ _ _ _ _ c.requires.graph c.requires.sources c.requires.targets c.run.new.self _ c.in_ok-run.ensures.underway c.in_ok-run.ensures.done
