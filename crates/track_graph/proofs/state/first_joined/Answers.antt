use Rattle.std.proofs.Common.{◌≡◌, ◌∙◌, List, Bool, true, false, ap, slice_set, length, replicate, arith, rules, Vec, Global}
use Rattle.std.proofs.lemmas.Bool.Decides.{nat_tests}
use Rattle.track_graph.proofs.StateLemmas.{first_joined-replicate, first_joined-none}
use Rattle.track_graph.proofs.state.first_joined.Goals.{then-not-is_empty, else-not-is_empty}
use Rattle.track_graph.proofs.state.first_joined.Goals as goal

pub returns : goal.returns
returns c =
    let made : c.in_ok-joined.joined.items ≡ replicate (length c.args.pins.now) false = c.in_ok-joined.ensures.items_if_clones_equal (search rules) in
    elim c.if-not-is_empty.branch [
      | then-not-is_empty w ↦
          ap (λ (v : Vec Bool Global). v.items) w.joined-is
          ∙ ap (λ (bs : List Bool). slice_set bs 0 true) made
          ∙ first_joined-replicate c.args.pins.now (grind (arith, nat_tests, c.in_ok-joined.ensures.len))
      | else-not-is_empty w ↦ ap (λ (v : Vec Bool Global). v.items) w.joined-is ∙ made ∙ first_joined-none c.args.pins.now (grind (arith, nat_tests, c.in_ok-joined.ensures.len))
    ]
