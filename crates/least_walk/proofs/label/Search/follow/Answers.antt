use Rattle.std.proofs.Common.{ℕ, ◌≡◌, ◌≤◌, ◌<◌, ◌+◌, ◌*◌, ◌∙◌, sym, ap, refl, arith, get_or, length}
use Rattle.least_walk.specs.declared.label.Label.{Label}
use Rattle.least_walk.specs.Labels.{label_at, most_cost, no_label}
use Rattle.least_walk.proofs.Lists.{label_from_slice}
use Rattle.least_walk.proofs.Adding.{extends_more}
use Rattle.least_walk.proofs.Following.{met_in, met_in_flags, nearer_met, number_in, within_got, dist_got, small_got, leads_got, least_got, no_edge_got, mid_more, covers_settled, covers_least, covers_near, mid_new}
use Rattle.least_walk.proofs.label.Search.follow.Goals as goal

pub is_settled-requires : goal.is_settled-requires
is_settled-requires g c = met_in_flags _ _ _ _ c.requires.mid.filed _ _ c.get-met.ensures

pub returns-then-is_settled-clause-mid : goal.returns-then-is_settled-clause-mid
returns-then-is_settled-clause-mid g c = λ done mid.
    let s = c.if-is_settled.ensures.settled in
    mid_more _ _ _ _ _ _ _ _ _ done c.args.edge mid (covers_settled _ _ _ _ _ _ _ _ _ c.requires.graph c.requires.mid c.args.edge s.0 (sym c.get-met.ensures ∙ s.1) s.2)

pub least-requires-clause-from : goal.least-requires-clause-from
least-requires-clause-from g c = within_got _ _ _ _ _ _ _ _ _ c.requires.mid _ (label_from_slice _ c.as_slice-labels.result.now c.args.number c.as_slice-labels.ensures.value)

pub overflow_add-nearest : goal.overflow_add-nearest
overflow_add-nearest g c =
    let x : Label = get_or c.as_slice-labels.result.now c.args.number no_label in
    let s : x.dist ≤ most_cost * (c.args.number + 1) = small_got _ _ _ _ _ _ _ _ _ c.requires.mid _ (label_from_slice _ c.as_slice-labels.result.now c.args.number c.as_slice-labels.ensures.value) in
    omega arith

pub is_nearer-requires : goal.is_nearer-requires
is_nearer-requires g c = met_in _ _ _ _ c.requires.mid.filed _ _ c.get-met.ensures

pub returns-then-not-is_nearer-clause-mid : goal.returns-then-not-is_nearer-clause-mid
returns-then-not-is_nearer-clause-mid g c = λ done mid.
    let s = c.if-not-is_nearer.ensures.not_nearer in
    let got : label_at c.args.self.now.labels.items c.args.number ≡ get_or c.as_slice-labels.result.now c.args.number no_label = label_from_slice _ c.as_slice-labels.result.now c.args.number c.as_slice-labels.ensures.value in
    mid_more _ _ _ _ _ _ _ _ _ done c.args.edge mid (covers_least _ _ _ _ _ _ _ _ _ c.requires.graph c.requires.mid c.args.edge s.0 c.least.result (sym c.get-met.ensures ∙ s.1) (least_got _ _ _ _ _ _ _ _ _ c.requires.mid _ got c.args.edge c.least.result c.least.ensures)
    (rw (← dist_got _ _ _ _ _ _ _ _ _ c.requires.mid _ got) s.2))

pub cost-requires-clause-from : goal.cost-requires-clause-from
cost-requires-clause-from g c = within_got _ _ _ _ _ _ _ _ _ c.requires.mid _ (label_from_slice _ c.as_slice-labels.result.now c.args.number c.as_slice-labels.ensures.value)

pub returns-in_default-clause-mid : goal.returns-in_default-clause-mid
returns-in_default-clause-mid g c = λ done mid.
    mid_more _ _ _ _ _ _ _ _ _ done c.args.edge mid (no_edge_got _ _ _ _ _ _ _ _ _ c.requires.mid _ (label_from_slice _ c.as_slice-labels.result.now c.args.number c.as_slice-labels.ensures.value) c.args.edge c.in_default.ensures.none)

pub overflow_add-dist : goal.overflow_add-dist
overflow_add-dist g c =
    let x : Label = get_or c.as_slice-labels.result.now c.args.number no_label in
    let s : x.dist ≤ most_cost * (c.args.number + 1) = small_got _ _ _ _ _ _ _ _ _ c.requires.mid _ (label_from_slice _ c.as_slice-labels.result.now c.args.number c.as_slice-labels.ensures.value) in
    omega arith

pub is_nearer-requires-2 : goal.is_nearer-requires-2
is_nearer-requires-2 g c = met_in _ _ _ _ c.requires.mid.filed _ _ c.get-met.ensures

pub returns-then-not-is_nearer-2-clause-mid : goal.returns-then-not-is_nearer-2-clause-mid
returns-then-not-is_nearer-2-clause-mid g c = λ done mid.
    let s = c.if-not-is_nearer-2.ensures.not_nearer in
    let got : label_at c.args.self.now.labels.items c.args.number ≡ get_or c.as_slice-labels.result.now c.args.number no_label = label_from_slice _ c.as_slice-labels.result.now c.args.number c.as_slice-labels.ensures.value in
    mid_more _ _ _ _ _ _ _ _ _ done c.args.edge mid (covers_near _ _ _ _ _ _ _ _ _ c.requires.graph c.requires.mid c.args.edge s.0 c.in-Some.cost (sym c.get-met.ensures ∙ s.1) (leads_got _ _ _ _ _ _ _ _ _ c.requires.mid _ got c.args.edge c.in-Some.cost c.in-Some.ensures.some)
    (rw (← dist_got _ _ _ _ _ _ _ _ _ c.requires.mid _ got) s.2))

pub bound-requires-clause-from : goal.bound-requires-clause-from
bound-requires-clause-from g c =
    let got : label_at c.args.self.now.labels.items c.args.number ≡ get_or c.as_slice-labels.result.now c.args.number no_label = label_from_slice _ c.as_slice-labels.result.now c.args.number c.as_slice-labels.ensures.value in
    c.requires.graph.leads _ c.args.edge c.in-Some.cost (within_got _ _ _ _ _ _ _ _ _ c.requires.mid _ got) c.in-Some.ensures.some

pub overflow_add-dist-2 : goal.overflow_add-dist-2
overflow_add-dist-2 g c =
    let x : Label = get_or c.as_slice-labels.result.now c.args.number no_label in
    let s : x.dist ≤ most_cost * (c.args.number + 1) = small_got _ _ _ _ _ _ _ _ _ c.requires.mid _ (label_from_slice _ c.as_slice-labels.result.now c.args.number c.as_slice-labels.ensures.value) in
    let l : c.args.number < length c.as_slice-labels.result.now = rw c.as_slice-labels.ensures.value (number_in _ _ _ _ _ _ _ _ _ _ c.requires.mid) in
    omega arith

pub returns-clause-mid : goal.returns-clause-mid
returns-clause-mid g c = λ done mid.
    let got : label_at c.args.self.now.labels.items c.args.number ≡ get_or c.as_slice-labels.result.now c.args.number no_label = label_from_slice _ c.as_slice-labels.result.now c.args.number c.as_slice-labels.ensures.value in
    let near = nearer_met _ _ _ _ c.get-met.ensures c.if-not-is_nearer-2.ensures.nearer in
    rw (c.in_ok-add.ensures.labels, c.in_ok-add.ensures.settled)
    (mid_new _ _ _ _ _ _ _ _ _ c.requires.graph c.requires.mid c.args.edge c.in-Some.cost (leads_got _ _ _ _ _ _ _ _ _ c.requires.mid _ got c.args.edge c.in-Some.cost c.in-Some.ensures.some) (omega arith) _ refl
    (ap (λ (n : ℕ). n + c.in-Some.cost) (dist_got _ _ _ _ _ _ _ _ _ c.requires.mid _ got))
    (ap (λ (n : ℕ). (get_or c.as_slice-labels.result.now c.args.number no_label).dist + c.in-Some.cost + n) c.bound.ensures) refl
    _ _ c.in_ok-add.ensures.known c.in_ok-add.ensures.queue
    (λ n h s. c.if-is_settled.ensures.not_settled n (c.get-met.ensures ∙ h) s)
    near done mid)

pub returns-clause-extends : goal.returns-clause-extends
returns-clause-extends g c = rw (c.in_ok-add.ensures.labels, c.in_ok-add.ensures.settled) (extends_more _ _ _)
