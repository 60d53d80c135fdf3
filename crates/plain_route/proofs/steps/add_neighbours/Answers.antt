use Rattle.std.proofs.Common.{◌≡◌, ℤ, ◌<ℤ◌, ◌++◌, Some, Contains, to_z, of_z, w64, ◌∙◌, rules}
use Rattle.std.proofs.lemmas.Int.{to_z-of_z}
use Rattle.std.proofs.lemmas.Result.{on_ok_weaker}
use Rattle.track_graph.specs.Levels.{along, NoneBetween}
use Rattle.plain_route.proofs.StepLemmas.{neighbours-both}
use Rattle.plain_route.proofs.steps.add_neighbours.Goals as goal

pub returns : goal.returns
returns c =
    let tech = c.args.tech.now in
    let v = c.args.v in
    let ps = c.args.under.now ++ c.args.over.now in
    let at : to_z w64 (of_z w64 c.along_of-at.result) ≡ along tech v.level v.point = to_z-of_z w64 _ (search rules) ∙ c.along_of-at.ensures in
    let above : (z : ℤ) → Contains ps z → along tech v.level v.point <ℤ z → NoneBetween ps (along tech v.level v.point) z → c.next_up.result ≡ Some z = rw at at c.next_up.ensures.next in
    let below : (z : ℤ) → Contains ps z → z <ℤ along tech v.level v.point → NoneBetween ps z (along tech v.level v.point) → c.next_down.result ≡ Some z = rw at at c.next_down.ensures.next in
    on_ok_weaker c.add_along-2.result (λ second. neighbours-both tech v ps c.next_up.result c.next_down.result c.args.edges.now c.add_along.new.edges c.add_along-2.new.edges c.in_ok-add_along.ensures second above below) c.add_along-2.ensures
