use Rattle.std.proofs.Common.{◌≡◌, ◌<◌, ◌≤◌, ℕ, ⊎_elim, subst, arith}
use Rattle.std.proofs.lemmas.Bool.{cases_lt, false≢true}
use Rattle.track_graph.specs.Designs.{IsUsable, IsUsableAt}
use Rattle.track_graph.proofs.vias.is_usable.Goals as goal

pub loop-lower-preserved : goal.loop-lower-preserved
loop-lower-preserved c level lt usable = ⊎_elim
    (λ (before : level < c.loop-lower.lower). c.loop-lower.invariant level before usable)
    (λ (here : c.loop-lower.lower ≤ level).
    let same : level ≡ c.loop-lower.lower = omega arith in
    false≢true (c.if-is_usable_at.ensures.1 (subst (λ (k : ℕ). IsUsableAt c.args.tech.now c.args.rects.now k) same usable)))
    (cases_lt level c.loop-lower.lower)

pub returns : goal.returns
returns c = (
  λ f. absurd (false≢true f),
  λ (h : IsUsable c.args.tech.now c.args.rects.now).
      let few : h.0 < 16 = omega (arith, h.1.joins.upper_level, c.requires.level_count) in
      absurd (c.loop-lower.invariant h.0 (omega (arith, few, c.loop-lower-test.false)) h.1),
)
