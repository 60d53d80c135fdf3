use Rattle.std.proofs.Common.{◌∙◌, ℕ, List, [], ◌∷◌, ◌++◌, Bool, not, cond, take, sym, ap, bytes_eq}
use Rattle.std.specs.List.{list_any}
use Rattle.def_text.specs.declared.def.DefNet.{DefNet}
use Rattle.build.specs.LookUps.{net_names}
use Rattle.cells.proofs.Lists.{apart_name}
use Rattle.build.proofs.Steps.{map_next}
use Rattle.build.proofs.net_names.names_of_nets.Goals as goal

pub loop-net-preserved : goal.loop-net-preserved
loop-net-preserved c =
    let nets = c.args.nets.now in
    let i = c.loop-net.net-index in
    let net = c.net-item.result in
    let none = ap (λ (b : List ℕ). list_any (bytes_eq b) c.loop-net.names) c.bytes.ensures ∙ ap (list_any (bytes_eq net.name)) c.loop-net.invariant ∙ apart_name (λ (n : DefNet). n.name) nets i net c.requires c.loop-net-test.true c.net-item.is in
    let added = c.in_ok-_added.ensures.added ∙ ap not none in
    c.in_ok-_added.ensures.names
    ∙ ap (λ (b : Bool). cond b (c.loop-net.names ++ c.bytes.result.now ∷ []) c.loop-net.names) added
    ∙ ap (λ (ns : List (List ℕ)). ns ++ c.bytes.result.now ∷ []) c.loop-net.invariant
    ∙ ap (λ (b : List ℕ). net_names (take i nets) ++ b ∷ []) c.bytes.ensures
    ∙ sym (map_next (λ (n : DefNet). n.name) nets i net c.loop-net-test.true c.net-item.is)
