use Rattle.std.proofs.Common.{◌≡◌, ◌<◌, ◌≤◌, ℕ, List, length, slice_get, slice_index_or, Contains, sym, ap, ◌∙◌, subst, arith, ⊎_elim}
use Rattle.std.proofs.lemmas.Bool.{cases_lt}
use Rattle.std.proofs.lemmas.Option.{same_Some, slice_get_within}
use Rattle.label_arena.specs.declared.place.Place.{Place}
use Rattle.label_arena.specs.declared.place.Bridge.{Bridge}
use Rattle.label_arena.specs.Marks.{IsBridgeEnd}
use Rattle.interval_label.specs.Known.{Marks}
use Rattle.interval_label.proofs.MarkList.{marks_same, marks_more, marks_kept, bridge_end}
use Rattle.interval_label.proofs.marking.Marking.add_bridges.Goals as goal

pub bridges-init : goal.bridges-init
bridges-init c = record { marks = marks_same c.args.arena.now.graph (IsBridgeEnd c.args.arena.now.graph) c.args.self.now c.requires.marking; all = λ j b l. absurd (omega (arith, l)) }

pub point-point-requires : goal.point-point-requires
point-point-requires c =
    let n : slice_index_or c.counts-counts.result 1 0 ≡ length c.args.arena.now.graph.bridges = ap (λ (xs : List ℕ). slice_index_or xs 1 0) c.counts-counts.ensures.counts in
    omega (arith, n, c.bridges-test.true)

pub add-requires-clause-marking : goal.add-requires-clause-marking
add-requires-clause-marking c = c.bridges.invariant.marks.marking

pub add-requires-clause-inside : goal.add-requires-clause-inside
add-requires-clause-inside c = (c.counts-counts.ensures.joined.bridges c.bridges.k _ c.point-point.ensures).a

pub add-requires-in-bridges-clause-marking : goal.add-requires-in-bridges-clause-marking
add-requires-in-bridges-clause-marking c = c.in_ok-add.ensures.ok.marking

pub add-requires-in-bridges-clause-inside : goal.add-requires-in-bridges-clause-inside
add-requires-in-bridges-clause-inside c = (c.counts-counts.ensures.joined.bridges c.bridges.k _ c.point-point.ensures).b

pub bridges-preserved : goal.bridges-preserved
bridges-preserved c =
    let p : Bridge = record { a = c.point-point.result.0; b = c.point-point.result.1; cost = c.point-point.result.2; tag = c.point-point.result.3 } in
    let first : Marks c.args.arena.now.graph (IsBridgeEnd c.args.arena.now.graph) c.args.self.now c.add.new.self = marks_more c.args.arena.now.graph (IsBridgeEnd c.args.arena.now.graph) (λ v. v ≡ p.a) (IsBridgeEnd c.args.arena.now.graph) c.args.self.now c.bridges.self c.add.new.self
    (λ v q. q)
    (λ v e. subst (λ (u : Place). IsBridgeEnd c.args.arena.now.graph u) (sym e) (bridge_end c.args.arena.now.graph c.bridges.k p c.point-point.ensures).0)
    c.bridges.invariant.marks c.in_ok-add.ensures.ok in
    record {
      marks = marks_more c.args.arena.now.graph (IsBridgeEnd c.args.arena.now.graph) (λ v. v ≡ p.b) (IsBridgeEnd c.args.arena.now.graph) c.args.self.now c.add.new.self c.add-in-bridges.new.self
          (λ v q. q)
          (λ v e. subst (λ (u : Place). IsBridgeEnd c.args.arena.now.graph u) (sym e) (bridge_end c.args.arena.now.graph c.bridges.k p c.point-point.ensures).1)
          first c.in_ok-add-2.ensures.ok;
      all = λ j b l h. ⊎_elim
          (λ (l : j < c.bridges.k).
          let o : Contains c.bridges.self.list.items b.a × Contains c.bridges.self.list.items b.b = c.bridges.invariant.all j b l h in (
            marks_kept c.args.arena.now.graph (λ v. v ≡ p.b) c.add.new.self c.add-in-bridges.new.self c.in_ok-add-2.ensures.ok b.a (marks_kept c.args.arena.now.graph (λ v. v ≡ p.a) c.bridges.self c.add.new.self c.in_ok-add.ensures.ok b.a o.0),
            marks_kept c.args.arena.now.graph (λ v. v ≡ p.b) c.add.new.self c.add-in-bridges.new.self c.in_ok-add-2.ensures.ok b.b (marks_kept c.args.arena.now.graph (λ v. v ≡ p.a) c.bridges.self c.add.new.self c.in_ok-add.ensures.ok b.b o.1),
          ))
          (λ (m : c.bridges.k ≤ j).
          let e : c.bridges.k ≡ j = omega (arith, l) in
          let same : p ≡ b = same_Some p b (sym c.point-point.ensures ∙ ap (slice_get c.args.arena.now.graph.bridges) e ∙ h) in (
            subst (λ (z : Bridge). Contains c.add-in-bridges.new.self.list.items z.a) same (marks_kept c.args.arena.now.graph (λ v. v ≡ p.b) c.add.new.self c.add-in-bridges.new.self c.in_ok-add-2.ensures.ok p.a c.in_ok-add.ensures.has),
            subst (λ (z : Bridge). Contains c.add-in-bridges.new.self.list.items z.b) same c.in_ok-add-2.ensures.has,
          ))
          (cases_lt j c.bridges.k);
    }

pub returns-clause-ok : goal.returns-clause-ok
returns-clause-ok c = c.bridges.invariant.marks

pub returns-clause-all : goal.returns-clause-all
returns-clause-all c v h =
    let n : slice_index_or c.counts-counts.result 1 0 ≡ length c.args.arena.now.graph.bridges = ap (λ (xs : List ℕ). slice_index_or xs 1 0) c.counts-counts.ensures.counts in
    let w : h.0 < length c.args.arena.now.graph.bridges = slice_get_within c.args.arena.now.graph.bridges h.0 h.3.bridge h.3.at in
    let both : Contains c.bridges.self.list.items h.3.bridge.a × Contains c.bridges.self.list.items h.3.bridge.b = c.bridges.invariant.all h.0 h.3.bridge (omega (arith, n, w, c.bridges-test.false)) h.3.at in
    ⊎_elim
    (λ (d : (v ≡ h.3.bridge.a) × (h.1 ≡ h.3.bridge.b)). subst (λ (u : Place). Contains c.bridges.self.list.items u) (sym d.0) both.0)
    (λ (d : (v ≡ h.3.bridge.b) × (h.1 ≡ h.3.bridge.a)). subst (λ (u : Place). Contains c.bridges.self.list.items u) (sym d.0) both.1)
    h.3.ends
