use Rattle.std.proofs.Common.{◌≡◌, ◌∙◌, ℕ, ◌<◌, List, [], ◌∷◌, ◌++◌, Some, ap, get_or, slice_get, length, map, refl, subst, sym, take}
use Rattle.std.proofs.lemmas.List.{map-append, take_more}
use Rattle.track_graph.specs.declared.design.Design.{Design}
use Rattle.std.proofs.lemmas.Option.{slice_get_read}
use Rattle.track_graph.specs.declared.design.Net.{Net}
use Rattle.track_graph.specs.Orders.{net_extent}
use Rattle.ripup.specs.Hulls.{rank_of}
use Rattle.ripup.proofs.RankLemmas.{extent-at}
use Rattle.ripup.proofs.net_order.ranks_of.Goals as goal

pub loop-net-preserved : goal.loop-net-preserved
loop-net-preserved c =
    let d : Design = c.args.design.now in
    let nets : List ℕ = c.args.nets.now in
    let n : ℕ = get_or nets c.loop-net.net-index 0 in
    let past : List ℕ = take c.loop-net.net-index nets in
    let listed : List Net = c.as_slice-of_design.result.now in
    let net : Net = c.index-of_design-net.result in
    let inside : n < length d.nets = c.requires c.loop-net.net-index 0 c.loop-net-test.true in
    let within : n < length listed = subst (λ (ns : List Net). n < length ns) (sym c.as_slice-of_design.ensures) inside in
    let read : slice_get listed n ≡ Some net = slice_get_read listed (length listed) n net refl within c.index-of_design-net.is in
    let at : slice_get d.nets n ≡ Some net = subst (λ (ns : List Net). slice_get ns n ≡ Some net) c.as_slice-of_design.ensures read in
    let extent : c.extent.result ≡ net_extent d n = c.extent.ensures ∙ extent-at d n net at in
    c.in_ok-push.ensures.items
    ∙ ap (λ (e : ℕ). c.loop-net.ranks.items ++ (e, n) ∷ []) extent
    ∙ ap (λ (ranks : List (ℕ × ℕ)). ranks ++ rank_of d n ∷ []) c.loop-net.invariant
    ∙ sym (map-append (rank_of d) past (n ∷ []))
    ∙ ap (λ (ns : List ℕ). map (rank_of d) ns) (sym (take_more nets c.loop-net.net-index 0 c.loop-net-test.true))
