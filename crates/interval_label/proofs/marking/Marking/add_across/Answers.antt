use Rattle.std.proofs.Common.{◌≡◌, inl, inr, ◌≤ℤ◌, Contains, sym, ap, ◌∙◌, subst, ⊎_elim}
use Rattle.std.proofs.lemmas.Option.{same_Some}
use Rattle.label_arena.specs.declared.place.Place.{Place}
use Rattle.label_arena.specs.declared.place.IntervalNo.{IntervalNo}
use Rattle.label_arena.specs.declared.place.Run.{Run}
use Rattle.interval_label.specs.Known.{IsAcross}
use Rattle.interval_label.proofs.Finding.{same_place}
use Rattle.interval_label.proofs.MarkList.{marks_same, marks_more, marks_kept, run_inside}
use Rattle.interval_label.proofs.marking.Marking.add_across.Goals as goal

pub returns-then-not-holds-clause-ok : goal.returns-then-not-holds-clause-ok
returns-then-not-holds-clause-ok c = marks_same c.args.arena.now.graph (IsAcross c.args.arena.now.graph c.args.k c.args.place.coord) c.args.self.now c.requires.marking

pub returns-then-not-holds-clause-all : goal.returns-then-not-holds-clause-all
returns-then-not-holds-clause-all c v h =
    let same : h.run ≡ c.run_of-run.result = same_Some h.run c.run_of-run.result (sym h.at ∙ c.run_of-run.ensures) in
    absurd (c.if-not-holds.ensures.no (subst (λ (r : Run). r.span.lo ≤ℤ c.args.place.coord) same h.low) (subst (λ (r : Run). c.args.place.coord ≤ℤ r.span.hi) same h.high))

pub add-requires-clause-inside : goal.add-requires-clause-inside
add-requires-clause-inside c = run_inside c.args.arena.now.graph c.args.k c.run_of-run.result c.args.place.coord c.requires.joined c.run_of-run.ensures c.if-not-holds.ensures.yes.0 c.if-not-holds.ensures.yes.1 c.moved.result c.moved.ensures.coord (inl c.moved.ensures.number)

pub add-requires-2-clause-marking : goal.add-requires-2-clause-marking
add-requires-2-clause-marking c = c.in_ok-add.ensures.ok.marking

pub add-requires-2-clause-inside : goal.add-requires-2-clause-inside
add-requires-2-clause-inside c = run_inside c.args.arena.now.graph c.args.k c.run_of-run.result c.args.place.coord c.requires.joined c.run_of-run.ensures c.if-not-holds.ensures.yes.0 c.if-not-holds.ensures.yes.1 c.moved-2.result c.moved-2.ensures.coord (inr c.moved-2.ensures.number)

pub returns-clause-ok : goal.returns-clause-ok
returns-clause-ok c = marks_more c.args.arena.now.graph (λ v. v ≡ c.moved.result) (λ v. v ≡ c.moved-2.result) (IsAcross c.args.arena.now.graph c.args.k c.args.place.coord) c.args.self.now c.add.new.self c.add-2.new.self
    (λ v e. record { run = c.run_of-run.result; at = c.run_of-run.ensures; low = c.if-not-holds.ensures.yes.0; high = c.if-not-holds.ensures.yes.1; on = inl (ap (λ (p : Place). p.interval) e ∙ c.moved.ensures.number); coord = ap (λ (p : Place). p.coord) e ∙ c.moved.ensures.coord })
    (λ v e. record { run = c.run_of-run.result; at = c.run_of-run.ensures; low = c.if-not-holds.ensures.yes.0; high = c.if-not-holds.ensures.yes.1; on = inr (ap (λ (p : Place). p.interval) e ∙ c.moved-2.ensures.number); coord = ap (λ (p : Place). p.coord) e ∙ c.moved-2.ensures.coord })
    c.in_ok-add.ensures.ok c.in_ok-add-2.ensures.ok

pub returns-clause-all : goal.returns-clause-all
returns-clause-all c v h =
    let same : h.run ≡ c.run_of-run.result = same_Some h.run c.run_of-run.result (sym h.at ∙ c.run_of-run.ensures) in
    ⊎_elim
    (λ (e : v.interval ≡ h.run.a).
    let here : c.moved.result ≡ v = same_place c.moved.result v (ap (λ (n : IntervalNo). n.0) (c.moved.ensures.number ∙ sym (e ∙ ap (λ (r : Run). r.a) same))) (c.moved.ensures.coord ∙ sym h.coord) in
    marks_kept c.args.arena.now.graph (λ w. w ≡ c.moved-2.result) c.add.new.self c.add-2.new.self c.in_ok-add-2.ensures.ok v (subst (λ (u : Place). Contains c.add.new.self.list.items u) here c.in_ok-add.ensures.has))
    (λ (e : v.interval ≡ h.run.b).
    let here : c.moved-2.result ≡ v = same_place c.moved-2.result v (ap (λ (n : IntervalNo). n.0) (c.moved-2.ensures.number ∙ sym (e ∙ ap (λ (r : Run). r.b) same))) (c.moved-2.ensures.coord ∙ sym h.coord) in
    subst (λ (u : Place). Contains c.add-2.new.self.list.items u) here c.in_ok-add-2.ensures.has)
    h.on
