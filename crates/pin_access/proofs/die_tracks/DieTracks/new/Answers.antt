use Rattle.std.proofs.Common.{◌+◌, ◌≡◌, ◌∙◌, ◌++◌, ◌∷◌, [], ℕ, length, sym, ap, subst, List, All, arith}
use Rattle.std.proofs.lemmas.List.{length-append}
use Rattle.std.proofs.lemmas.List.Elements.{All-push}
use Rattle.pin_access.specs.declared.die_tracks.DieLevel.{DieLevel}
use Rattle.pin_access.specs.DieTracks.{IsDieLevel, IsDieLevelOf}
use Rattle.pin_access.specs.EntryOrder.{system_of}
use Rattle.pin_access.proofs.DieLemmas.{Numbered, numbered, each_more}
use Rattle.pin_access.proofs.die_tracks.DieTracks.new.Goals as goal

pub overflow_cast-layer : goal.overflow_cast-layer
overflow_cast-layer c =
    let n : Numbered c.args.tech.now c.loop-level.level c.in-Some.layer = numbered c.args.tech.now c.loop-level.level c.in-Some.layer c.layer_number.result c.in-Some.is c.layer_number.ensures in
    omega (arith, n.below, c.requires.tech.layer_count)

pub die_level-requires-clause-level : goal.die_level-requires-clause-level
die_level-requires-clause-level c = (numbered c.args.tech.now c.loop-level.level c.in-Some.layer c.layer_number.result c.in-Some.is c.layer_number.ensures).within

pub loop-level-preserved : goal.loop-level-preserved
loop-level-preserved c =
    let n : Numbered c.args.tech.now c.loop-level.level c.in-Some.layer = numbered c.args.tech.now c.loop-level.level c.in-Some.layer c.layer_number.result c.in-Some.is c.layer_number.ensures in
    let l = c.in_ok-die_level.field-0 in
    let is : c.push.new.self ≡ c.loop-level.levels ++ l ∷ [] = c.in_ok-push.ensures.ok in (
      ap length is ∙ length-append c.loop-level.levels (l ∷ []) ∙ ap (λ (m : ℕ). m + 1) c.loop-level.invariant.0,
      omega (arith, n.within),
      subst (λ (ls : List DieLevel). All IsDieLevel ls) (sym is) (All-push IsDieLevel c.loop-level.levels l c.loop-level.invariant.2 c.in_ok-die_level.ensures.level),
      each_more (IsDieLevelOf (system_of c.args.tech.now c.args.tracks.now c.args.die)) c.loop-level.levels c.push.new.self l c.loop-level.level c.loop-level.invariant.0 is c.in_ok-die_level.ensures.of c.loop-level.invariant.3,
    )
