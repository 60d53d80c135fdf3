use Rattle.std.proofs.Common.{◌≡◌, ◌<◌, ◌≤◌, ◌+◌, ℕ, Some, slice_get, slice_index_or, Contains, length, refl, ap, sym, ◌∙◌, subst, arith, ⊎_elim}
use Rattle.std.proofs.lemmas.Bool.{cases_lt}
use Rattle.std.proofs.lemmas.Option.{slice_get-get_or, slice_get_within, same_Some}
use Rattle.std.proofs.lemmas.List.Elements.{Contains-get_or}
use Rattle.label_arena.specs.declared.place.Label.{Label}
use Rattle.interval_label.specs.Task.{Stop, left_at}
use Rattle.interval_label.specs.Queue.{Queued}
use Rattle.interval_label.specs.State.{source_label}
use Rattle.interval_label.proofs.Improving.{no_stop}
use Rattle.interval_label.proofs.Members.{none_in}
use Rattle.interval_label.proofs.answer.begin.Goals as goal

pub sources-init : goal.sources-init
sources-init c = record {
  best = refl;
  floor = c.new.ensures.floor;
  has = λ k t l. absurd (omega (arith, l));
  only = λ d y h. absurd (none_in (d, y) (subst (λ (q : Queued). Contains q (d, y)) c.new.ensures.empty h));
}

pub wait-requires-clause-inside : goal.wait-requires-clause-inside
wait-requires-clause-inside c = (c.requires.sources (slice_index_or c.args.sources.now c.sources.k no_stop) (Contains-get_or c.args.sources.now c.sources.k no_stop c.sources-test.true)).0

pub wait-requires-clause-bounded : goal.wait-requires-clause-bounded
wait-requires-clause-bounded c = c.requires.bounded.small _ (c.requires.sources (slice_index_or c.args.sources.now c.sources.k no_stop) (Contains-get_or c.args.sources.now c.sources.k no_stop c.sources-test.true)).0

pub wait-requires-clause-small : goal.wait-requires-clause-small
wait-requires-clause-small c = omega (arith, (c.requires.sources (slice_index_or c.args.sources.now c.sources.k no_stop) (Contains-get_or c.args.sources.now c.sources.k no_stop c.sources-test.true)).1)

pub wait-requires-clause-floor : goal.wait-requires-clause-floor
wait-requires-clause-floor c = omega (arith, c.sources.invariant.floor)

pub sources-preserved : goal.sources-preserved
sources-preserved c =
    let t : Stop = slice_index_or c.args.sources.now c.sources.k no_stop in
    let here : slice_get c.args.sources.now c.sources.k ≡ Some t = slice_get-get_or c.args.sources.now c.sources.k no_stop c.sources-test.true in
    record {
      best = c.in_ok-wait.ensures.ok.best ∙ c.sources.invariant.best;
      floor = c.in_ok-wait.ensures.ok.floor ∙ c.sources.invariant.floor;
      has = λ k s l h. ⊎_elim
          (λ (l : k < c.sources.k). c.in_ok-wait.ensures.ok.queue.keeps _ (c.sources.invariant.has k s l h))
          (λ (m : c.sources.k ≤ k).
          let e : c.sources.k ≡ k = omega (arith, l) in
          let same : t ≡ s = same_Some t s (sym here ∙ ap (slice_get c.args.sources.now) e ∙ h) in
          subst (λ (z : Stop). Contains c.wait.new.self.queue.pairs (z.1 + left_at c.args.arena.now.graph c.args.bound.now z.0, source_label k z)) same
          (subst (λ (n : ℕ). Contains c.wait.new.self.queue.pairs (t.1 + left_at c.args.arena.now.graph c.args.bound.now t.0, source_label n t)) e c.in_ok-wait.ensures.ok.queue.has))
          (cases_lt k c.sources.k);
      only = λ d y h. ⊎_elim
          (λ (e : (d, y) ≡ (t.1 + left_at c.args.arena.now.graph c.args.bound.now t.0, source_label c.sources.k t)). (c.sources.k, t, here, ap (λ (f : ℕ × Label). f.0) e, ap (λ (f : ℕ × Label). f.1) e))
          (λ (o : Contains c.sources.search.queue.pairs (d, y)). c.sources.invariant.only d y o)
          (c.in_ok-wait.ensures.ok.queue.only (d, y) h);
    }

pub returns : goal.returns
returns c = record {
  best = c.sources.invariant.best;
  floor = c.sources.invariant.floor;
  has = λ k t h. c.sources.invariant.has k t (let w : k < length c.args.sources.now = slice_get_within c.args.sources.now k t h in omega (arith, w, c.sources-test.false)) h;
  only = c.sources.invariant.only;
}
