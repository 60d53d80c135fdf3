use Rattle.std.proofs.Common.{◌≡◌, ◌<◌, ◌≤◌, length, Some, slice_get, slice_index_or, Contains, sym, ap, ◌∙◌, subst, arith, ⊎_elim}
use Rattle.std.proofs.lemmas.Bool.{cases_lt}
use Rattle.std.proofs.lemmas.Option.{same_Some, slice_get-get_or}
use Rattle.std.proofs.lemmas.List.Elements.{Contains-get_or}
use Rattle.label_arena.specs.declared.place.Place.{Place}
use Rattle.label_arena.specs.Marks.{IsStop}
use Rattle.interval_label.specs.Task.{Stop}
use Rattle.interval_label.proofs.Improving.{no_stop}
use Rattle.interval_label.proofs.MarkList.{marks_same, marks_more, marks_kept, at_index}
use Rattle.interval_label.proofs.marking.Marking.add_stops.Goals as goal

pub stops-init : goal.stops-init
stops-init c = record { marks = marks_same c.args.arena.now.graph (IsStop c.args.stops.now) c.args.self.now c.requires.marking; all = λ j s l. absurd (omega (arith, l)) }

pub add-requires-clause-marking : goal.add-requires-clause-marking
add-requires-clause-marking c = c.stops.invariant.marks.marking

pub add-requires-clause-inside : goal.add-requires-clause-inside
add-requires-clause-inside c = (c.requires.stops (slice_index_or c.args.stops.now c.stops.k no_stop) (Contains-get_or c.args.stops.now c.stops.k no_stop c.stops-test.true)).0

pub stops-preserved : goal.stops-preserved
stops-preserved c =
    let t : Stop = slice_index_or c.args.stops.now c.stops.k no_stop in
    let here : slice_get c.args.stops.now c.stops.k ≡ Some t = slice_get-get_or c.args.stops.now c.stops.k no_stop c.stops-test.true in
    record {
      marks = marks_more c.args.arena.now.graph (IsStop c.args.stops.now) (λ v. v ≡ t.0) (IsStop c.args.stops.now) c.args.self.now c.stops.self c.add.new.self
          (λ v p. p)
          (λ v e. (t.1, subst (λ (u : Place). Contains c.args.stops.now (u, t.1)) (sym e) (Contains-get_or c.args.stops.now c.stops.k no_stop c.stops-test.true)))
          c.stops.invariant.marks c.in_ok-add.ensures.ok;
      all = λ j s l h. ⊎_elim
          (λ (l : j < c.stops.k). marks_kept c.args.arena.now.graph (λ v. v ≡ t.0) c.stops.self c.add.new.self c.in_ok-add.ensures.ok s.0 (c.stops.invariant.all j s l h))
          (λ (m : c.stops.k ≤ j).
          let e : c.stops.k ≡ j = omega (arith, l) in
          let same : t ≡ s = same_Some t s (sym here ∙ ap (slice_get c.args.stops.now) e ∙ h) in
          subst (λ (z : Stop). Contains c.add.new.self.list.items z.0) same c.in_ok-add.ensures.has)
          (cases_lt j c.stops.k);
    }

pub returns-clause-ok : goal.returns-clause-ok
returns-clause-ok c = c.stops.invariant.marks

pub returns-clause-all : goal.returns-clause-all
returns-clause-all c v h = c.stops.invariant.all h.1.0 (v, h.0) (let w : h.1.0 < length c.args.stops.now = h.1.1 in omega (arith, w, c.stops-test.false)) (at_index c.args.stops.now (v, h.0) h.1)
