use Rattle.std.proofs.Common.{◌≡◌, ◌<◌, ◌≤◌, ℕ, List, Some, slice_get, slice_index_or, Contains, length, ap, sym, ◌∙◌, subst, arith, ⊎_elim}
use Rattle.std.proofs.lemmas.Bool.{cases_lt}
use Rattle.std.proofs.lemmas.Option.{slice_get-get_or, slice_get_within, same_Some}
use Rattle.std.proofs.lemmas.List.Elements.{Contains-get_or}
use Rattle.interval_label.specs.Task.{Stop}
use Rattle.interval_label.specs.Known.{row_at}
use Rattle.interval_label.proofs.Costs.{inside_number}
use Rattle.interval_label.proofs.Improving.{no_stop}
use Rattle.interval_label.proofs.Members.{none_in}
use Rattle.interval_label.proofs.RowsOf.{gained_has, gained_keeps, gained_only}
use Rattle.interval_label.proofs.rows.stops_of.Goals as goal

pub targets-init : goal.targets-init
targets-init c = record {
  wide = c.in_ok-rows.ensures.wide;
  only = λ n k h. absurd (none_in k (subst (λ (r : List ℕ). Contains r k) (c.in_ok-rows.ensures.empty n) h));
  all = λ k t l. absurd (omega (arith, l));
}

pub add_to-requires : goal.add_to-requires
add_to-requires c =
    let t : Stop = slice_index_or c.args.targets.now c.targets.k no_stop in
    let w : t.0.interval.0 < length c.args.arena.now.graph.intervals = inside_number c.args.arena.now.graph t.0 (c.requires t (Contains-get_or c.args.targets.now c.targets.k no_stop c.targets-test.true)).0 in
    omega (arith, w, c.targets.invariant.wide)

pub targets-preserved : goal.targets-preserved
targets-preserved c =
    let t : Stop = slice_index_or c.args.targets.now c.targets.k no_stop in
    record {
      wide = c.in_ok-add_to.ensures.ok.wide ∙ c.targets.invariant.wide;
      only = λ n k h. ⊎_elim
          (λ (o : Contains (row_at c.targets.rows n) k). let l : k < c.targets.k = c.targets.invariant.only n k o in omega (arith, l))
          (λ (o : (n ≡ t.0.interval.0) × (k ≡ c.targets.k)). omega (arith, o.1))
          (gained_only c.targets.rows c.add_to.new.rows t.0.interval.0 c.targets.k c.in_ok-add_to.ensures.ok n k h);
      all = λ k s l h. ⊎_elim
          (λ (l : k < c.targets.k). gained_keeps c.targets.rows c.add_to.new.rows t.0.interval.0 c.targets.k c.in_ok-add_to.ensures.ok s.0.interval.0 k (c.targets.invariant.all k s l h))
          (λ (m : c.targets.k ≤ k).
          let e : c.targets.k ≡ k = omega (arith, l) in
          let here : slice_get c.args.targets.now c.targets.k ≡ Some t = slice_get-get_or c.args.targets.now c.targets.k no_stop c.targets-test.true in
          let same : t ≡ s = same_Some t s (sym here ∙ ap (slice_get c.args.targets.now) e ∙ h) in
          subst (λ (z : Stop). Contains (row_at c.add_to.new.rows z.0.interval.0) k) same
          (subst (λ (m : ℕ). Contains (row_at c.add_to.new.rows t.0.interval.0) m) e (gained_has c.targets.rows c.add_to.new.rows t.0.interval.0 c.targets.k c.in_ok-add_to.ensures.ok)))
          (cases_lt k c.targets.k);
    }

pub returns : goal.returns
returns c = record {
  wide = c.targets.invariant.wide;
  only = λ n k h. (let l : k < c.targets.k = c.targets.invariant.only n k h in omega (arith, l, c.targets.auto.k-end));
  all = λ k t h. c.targets.invariant.all k t (let w : k < length c.args.targets.now = slice_get_within c.args.targets.now k t h in omega (arith, w, c.targets-test.false)) h;
}
