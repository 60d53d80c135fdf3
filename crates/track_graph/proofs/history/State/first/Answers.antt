use Rattle.std.proofs.Common.{◌≡◌, ◌∙◌, ◌≤◌, List, length, ap, sym, subst, map}
use Rattle.std.proofs.lemmas.List.{take_all}
use Rattle.track_graph.specs.declared.history.NetState.{NetState}
use Rattle.track_graph.specs.declared.design.Net.{Net}
use Rattle.track_graph.specs.Conditions.{IsStateOf}
use Rattle.track_graph.specs.States.{fresh}
use Rattle.track_graph.proofs.StateLemmas.{first-kept}
use Rattle.track_graph.proofs.history.State.first.Goals as goal

pub returns-clause-of_design : goal.returns-clause-of_design
returns-clause-of_design c =
    let past : length c.args.design.now.nets ≤ c.loop-net.net-index = subst (λ (ns : List Net). length ns ≤ c.loop-net.net-index) c.as_slice-net-items.ensures c.loop-net-test.false in
    let nets : c.from_vec.result ≡ map fresh c.args.design.now.nets =
    c.from_vec.ensures ∙ c.loop-net.invariant ∙ ap (λ (ns : List Net). map fresh ns) (take_all c.loop-net.net-index c.args.design.now.nets past) in
    subst (λ (ns : List NetState). IsStateOf c.args.design.now (record { nets = ns })) (sym nets) (first-kept c.args.design.now)
