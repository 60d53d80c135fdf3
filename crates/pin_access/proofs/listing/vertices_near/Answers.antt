use Rattle.std.proofs.Common.{◌≡◌, ◌+◌, inl, ⊎_elim, [], ◌∷◌, drop, Any, Contains, sym, ◌∙◌, ap, arith}
use Rattle.std.proofs.lemmas.List.{drop_more, drop_all}
use Rattle.std.proofs.lemmas.List.Elements.{All-more}
use Rattle.track_graph.specs.Metal.{Metal}
use Rattle.pin_access.specs.EntryOrder.{system_of}
use Rattle.pin_access.specs.Nearby.{IsNearMetal, IsRect}
use Rattle.pin_access.proofs.EntryLemmas.{gathered_more}
use Rattle.rt_base.proofs.Lists.{Any-none}
use Rattle.pin_access.proofs.listing.vertices_near.Goals as goal

pub loop-metal-preserved : goal.loop-metal-preserved
loop-metal-preserved c =
    let i = c.loop-metal.metal-index in
    let m : Metal = c.metal-item.result in
    let rest : drop i c.args.rects.now ≡ m ∷ drop (i + 1) c.args.rects.now = drop_more c.args.rects.now i m (omega arith) ∙ ap (λ x. x ∷ drop (i + 1) c.args.rects.now) (sym c.metal-item.is) in
    record {
      exact = λ v.
          let P : Metal → Type 0 = λ x. IsNearMetal (system_of c.args.tech.now c.args.tracks.now c.args.die) c.args.steps x v in
          gathered_more P (Contains c.loop-metal.vertices.items v) (Contains c.add_near.new.out.items v) (Any P c.args.rects.now) m (drop (i + 1) c.args.rects.now) (rw rest at (c.loop-metal.invariant.exact v)) (c.in_ok-add_near.ensures.adds v);
      rects = All-more (λ (x : Metal). IsRect x.1) c.args.rects.now i m (omega arith) c.loop-metal.invariant.rects (rw (← c.metal-item.is) c.add_near.ensures.rect);
    }

pub returns-clause-exact : goal.returns-clause-exact
returns-clause-exact c = λ v.
    let P : Metal → Type 0 = λ m. IsNearMetal (system_of c.args.tech.now c.args.tracks.now c.args.die) c.args.steps m v in
    let none : drop c.loop-metal.metal-index c.args.rects.now ≡ [] = drop_all _ _ c.loop-metal-test.false in
    let all = rw none at (c.loop-metal.invariant.exact v) in
    let same = c.put_in_order.ensures.same v in (
      λ h. all.0 (inl (same.0 h)),
      λ h. same.1 (⊎_elim (λ (here : Contains c.loop-metal.vertices.items v). here) (λ (more : Any P []). absurd (Any-none P more)) (all.1 h)),
    )
