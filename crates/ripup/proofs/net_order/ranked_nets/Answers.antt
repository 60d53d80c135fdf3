use Rattle.std.proofs.Common.{◌≡◌, ◌∙◌, ℕ, List, [], ◌∷◌, ◌++◌, Some, Vec, Global, ap, refl, sym, subst, slice_get, length, rules}
use Rattle.std.proofs.lemmas.Option.{slice_get_read}
use Rattle.track_graph.specs.declared.design.Net.{Net}
use Rattle.track_graph.specs.declared.design.NetKind.TheVariants.{Routable}
use Rattle.track_graph.specs.Orders.{net_extent}
use Rattle.ripup.specs.Hulls.{AreRanked}
use Rattle.ripup.proofs.RankLemmas.{AreRanked-skip, AreRanked-push, routable-at, not_routable-at, extent-at}
use Rattle.ripup.proofs.net_order.ranked_nets.Goals.{then-eq+in_ok-push, else-eq}
use Rattle.ripup.proofs.net_order.ranked_nets.Goals as goal

pub loop-number-preserved : goal.loop-number-preserved
loop-number-preserved c =
    let read : slice_get c.as_slice-net-items.result.now c.loop-number.number ≡ Some c.net-item.result =
    slice_get_read c.as_slice-net-items.result.now (length c.as_slice-net-items.result.now) c.loop-number.number c.net-item.result refl c.loop-number-test.true c.net-item.is in
    let at : slice_get c.args.design.now.nets c.loop-number.number ≡ Some c.net-item.result =
    subst (λ (nets : List Net). slice_get nets c.loop-number.number ≡ Some c.net-item.result) c.as_slice-net-items.ensures read in
    elim c.if-eq.branch [
      | then-eq+in_ok-push w ↦
          let kind : c.net-item.result.kind ≡ Routable = search rules in
          let same : w.extent.result ≡ net_extent c.args.design.now c.loop-number.number = w.extent.ensures ∙ extent-at c.args.design.now c.loop-number.number c.net-item.result at in
          let items : c.if-eq.ranks.items ≡ c.loop-number.ranks.items ++ (net_extent c.args.design.now c.loop-number.number, c.loop-number.number) ∷ [] =
          ap (λ (v : Vec (ℕ × ℕ) Global). v.items) w.ranks-is ∙ w.in_ok-push.ensures.items
          ∙ ap (λ (e : ℕ). c.loop-number.ranks.items ++ (e, c.loop-number.number) ∷ []) same in
          subst (AreRanked c.args.design.now _) (sym items)
          (AreRanked-push c.args.design.now c.loop-number.number c.loop-number.ranks.items c.loop-number.invariant (routable-at c.args.design.now c.loop-number.number c.net-item.result at kind))
      | else-eq w ↦
          let other : c.net-item.result.kind ≡ Routable → ⊥ = search rules in
          subst (AreRanked c.args.design.now _) (sym (ap (λ (v : Vec (ℕ × ℕ) Global). v.items) w.ranks-is))
          (AreRanked-skip c.args.design.now c.loop-number.number c.loop-number.ranks.items c.loop-number.invariant (not_routable-at c.args.design.now c.loop-number.number c.net-item.result at other))
    ]
