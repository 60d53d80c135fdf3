use Rattle.std.proofs.Common.{◌≡◌, ◌<◌, ◌≤◌, pos, ap, sym, ◌∙◌, subst, length, List, slice_index_or, Some, slice_get, Contains, arith, ⊎_elim}
use Rattle.std.proofs.lemmas.Bool.{cases_lt}
use Rattle.std.proofs.lemmas.Option.{slice_get_within, slice_get-get_or, same_Some}
use Rattle.std.proofs.lemmas.List.Elements.{Contains-get_or}
use Rattle.label_arena.specs.Plain.{factor_at}
use Rattle.interval_label.specs.Task.{left_at}
use Rattle.interval_label.specs.Search.{ClimbsAt}
use Rattle.interval_label.specs.declared.marking.Mark.{Mark}
use Rattle.interval_label.proofs.Costs.{factor_read}
use Rattle.interval_label.proofs.Spreading.{grows_none, grows_more, spread_more, climbs_kept, climbs_flat, climbs_none, climbs_all, run_ends_within}
use Rattle.interval_label.proofs.search.Search.climb.Goals as goal

pub interval-requires : goal.interval-requires
interval-requires c = (run_ends_within c.args.arena.now.graph c.args.k c.args.run c.args.from c.args.to c.requires.field.joined c.requires.is).1

pub interval-requires-2 : goal.interval-requires-2
interval-requires-2 c = (run_ends_within c.args.arena.now.graph c.args.k c.args.run c.args.from c.args.to c.requires.field.joined c.requires.is).0

pub row_of-mark-items-requires : goal.row_of-mark-items-requires
row_of-mark-items-requires c =
    let w : c.args.to.0 < length c.args.arena.now.graph.intervals = (run_ends_within c.args.arena.now.graph c.args.k c.args.run c.args.from c.args.to c.requires.field.joined c.requires.is).1 in
    omega (arith, w, c.requires.wide c.in-Some.rows c.in-Some.is)

pub returns-then-interval-clause-covers : goal.returns-then-interval-clause-covers
returns-then-interval-clause-covers c = climbs_flat c.args.arena.now.graph c.args.known.now c.args.self.now.queue.pairs c.args.label c.args.run c.args.from c.args.to
    (let a : factor_at c.args.arena.now.graph c.args.to.0 ≡ c.interval.result.factor = factor_read c.args.arena.now.graph c.args.to.0 c.interval.result c.interval.ensures in
    let b : factor_at c.args.arena.now.graph c.args.from.0 ≡ c.interval-2.result.factor = factor_read c.args.arena.now.graph c.args.from.0 c.interval-2.result c.interval-2.ensures in
    omega (arith, a, b, c.if-interval.true))

pub returns-in_default-clause-covers : goal.returns-in_default-clause-covers
returns-in_default-clause-covers c = climbs_none c.args.arena.now.graph c.args.known.now c.args.self.now.queue.pairs c.args.label c.args.run c.args.from c.args.to c.in_default.is

pub marks-init : goal.marks-init
marks-init c = record { grows = grows_none c.args.arena.now.graph (left_at c.args.arena.now.graph c.args.bound.now) c.args.known.now c.args.number c.args.label c.args.self.now; done = λ j m l. absurd (omega (arith, l)) }

pub climb_at-requires-clause-can : goal.climb_at-requires-clause-can
climb_at-requires-clause-can c = spread_more c.args.arena.now.graph (left_at c.args.arena.now.graph c.args.bound.now) c.args.known.now c.args.number c.args.label c.args.self.now c.marks.self c.requires.can c.marks.invariant.grows

pub climb_at-requires-clause-known : goal.climb_at-requires-clause-known
climb_at-requires-clause-known c =
    let m : Mark = slice_index_or c.row_of-mark-items.result.now c.marks.mark-index (record { coord = pos 0 }) in
    (c.in-Some.rows, c.in-Some.is, subst (λ (r : List Mark). Contains r m) c.row_of-mark-items.ensures (Contains-get_or c.row_of-mark-items.result.now c.marks.mark-index (record { coord = pos 0 }) c.marks-test.true))

pub marks-preserved : goal.marks-preserved
marks-preserved c = record {
  grows = grows_more c.args.arena.now.graph (left_at c.args.arena.now.graph c.args.bound.now) c.args.known.now c.args.number c.args.label c.args.self.now c.marks.self c.climb_at.new.self c.marks.invariant.grows c.in_ok-climb_at.ensures.ok;
  done = λ j m l h. ⊎_elim
      (λ (l : j < c.marks.mark-index). climbs_kept c.args.arena.now.graph c.marks.self.queue.pairs c.climb_at.new.self.queue.pairs c.args.label c.args.run c.args.from c.args.to m.coord c.in_ok-climb_at.ensures.ok.queue.keeps (c.marks.invariant.done j m l h))
      (λ (k : c.marks.mark-index ≤ j).
      let i : c.marks.mark-index ≡ j = omega (arith, l) in
      let e : slice_get c.row_of-mark-items.result.now c.marks.mark-index ≡ Some (slice_index_or c.row_of-mark-items.result.now c.marks.mark-index (record { coord = pos 0 })) = slice_get-get_or c.row_of-mark-items.result.now c.marks.mark-index (record { coord = pos 0 }) c.marks-test.true in
      let same : slice_index_or c.row_of-mark-items.result.now c.marks.mark-index (record { coord = pos 0 }) ≡ m = same_Some _ m (sym e ∙ ap (slice_get c.row_of-mark-items.result.now) i ∙ h) in
      subst (λ (n : Mark). ClimbsAt c.args.arena.now.graph c.climb_at.new.self.queue.pairs c.args.label c.args.run c.args.from c.args.to n.coord) same c.in_ok-climb_at.ensures.covers)
      (cases_lt j c.marks.mark-index);
}

pub returns-clause-covers : goal.returns-clause-covers
returns-clause-covers c = climbs_all c.args.arena.now.graph c.args.known.now c.marks.self.queue.pairs c.args.label c.args.run c.args.from c.args.to c.in-Some.rows c.row_of-mark-items.result.now c.in-Some.is c.row_of-mark-items.ensures (λ j m h. c.marks.invariant.done j m (let w : j < length c.row_of-mark-items.result.now = slice_get_within c.row_of-mark-items.result.now j m h in omega (arith, w, c.marks-test.false)) h)
