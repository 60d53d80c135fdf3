use Rattle.std.proofs.Common.{◌≡◌, ◌<◌, ◌∙◌, All, length, ap, subst, sym, arith}
use Rattle.label_arena.specs.declared.group.End.{End}
use Rattle.label_arena.specs.Keeping.{bridge_ends, run_ends}
use Rattle.label_arena.proofs.Keeping.{bridge_ends_within, run_ends_within, kept_indexed, grouped_same}
use Rattle.label_arena.proofs.arena.Arena.index.Goals as goal

pub fill-requires-clause-rows : goal.fill-requires-clause-rows
fill-requires-clause-rows c = λ k d l.
    let ends : c.deref-2.result.now ≡ bridge_ends 0 c.self.inside.bridges.items = c.deref-2.ensures.value ∙ c.in_ok-end_bridges.ensures ∙ ap (bridge_ends 0) c.deref.ensures.value in
    let within = subst (All (λ (e : End). e.row < length c.self.inside.intervals.items)) (sym ends) (bridge_ends_within _ _ _ _ _ _ _ _ c.self.invariant) k d l in
    omega (arith, within, c.len-count.ensures)

pub fill-requires-2-clause-rows : goal.fill-requires-2-clause-rows
fill-requires-2-clause-rows c = λ k d l.
    let ends : c.deref-4.result.now ≡ run_ends 0 c.self.inside.runs.items = c.deref-4.ensures.value ∙ c.in_ok-end_runs.ensures ∙ ap (run_ends 0) c.deref-3.ensures.value in
    let within = subst (All (λ (e : End). e.row < length c.self.inside.intervals.items)) (sym ends) (run_ends_within _ _ _ _ _ _ _ _ c.self.invariant) k d l in
    omega (arith, within, c.len-count.ensures)

pub invariant_of-self-2 : goal.invariant_of-self-2
invariant_of-self-2 c =
    let count : c.len-count.result ≡ length c.self.inside.intervals.items = omega (arith, c.len-count.ensures) in
    let bridges : c.deref-2.result.now ≡ bridge_ends 0 c.self.inside.bridges.items = c.deref-2.ensures.value ∙ c.in_ok-end_bridges.ensures ∙ ap (bridge_ends 0) c.deref.ensures.value in
    let runs : c.deref-4.result.now ≡ run_ends 0 c.self.inside.runs.items = c.deref-4.ensures.value ∙ c.in_ok-end_runs.ensures ∙ ap (run_ends 0) c.deref-3.ensures.value in
    kept_indexed _ _ _ _ _ _ _ _ c.self.invariant c.fill.new.self c.fill-2.new.self
    (grouped_same c.fill.new.self _ _ _ _ count bridges c.in_ok-fill.ensures)
    (grouped_same c.fill-2.new.self _ _ _ _ count runs c.in_ok-fill-2.ensures)
