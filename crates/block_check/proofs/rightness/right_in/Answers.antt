use Rattle.std.proofs.Common.{◌≡◌, ◌∙◌, ◌↔◌, ℕ, List, IsTrue, IfOk, ap, subst, sym}
use Rattle.std.proofs.lemmas.Bool.{false≢true}
use Rattle.plain_route.specs.Senses.{reading_of}
use Rattle.plain_route.specs.declared.sense.Sense.{Sense}
use Rattle.plain_route.specs.declared.sense.Sense.TheVariants.{Without}
use Rattle.track_graph.specs.Searches.{IsLeast}
use Rattle.track_graph.specs.States.{net_state}
use Rattle.block_check.proofs.Blocks.{rip-right, stuck-right, wire-right}
use Rattle.block_check.proofs.Stored.{tests-same}
use Rattle.block_check.proofs.rightness.right_in.Goals as goal

pub returns-then-not-branch : goal.returns-then-not-branch
returns-then-not-branch g c =
    let waiting = c.is_waiting.ensures.0 c.if-not-is_waiting.false in
    let same = rip-right c.args.design.now c.args.state.now c.args.block.now c.net_of-net.result c.net_of-net.ensures waiting _ c.in-RipFor.soft c.in-RipFor.ripped c.in-RipFor.walk c.in-RipFor.is in (
      λ yes. absurd (false≢true yes),
      λ right. absurd (false≢true (sym c.if-not-branch.true ∙ c.in_ok-must_rip-in-RipFor.ensures.1 (same.1 right).0)),
    )

pub returns-in-Wire : goal.returns-in-Wire
returns-in-Wire g c =
    let waiting = c.is_waiting.ensures.0 c.if-not-is_waiting.false in
    tests-same c.is_least.result (wire-right c.args.design.now c.args.state.now c.args.block.now c.net_of-net.result c.net_of-net.ensures waiting _ c.in-Wire.walk c.in-Wire.is) c.is_least.ensures

pub returns-in-Stuck : goal.returns-in-Stuck
returns-in-Stuck g c =
    let waiting = c.is_waiting.ensures.0 c.if-not-is_waiting.false in
    tests-same c.is_stuck.result (stuck-right c.args.design.now c.args.state.now c.args.block.now c.net_of-net.result c.net_of-net.ensures waiting _ c.in-Stuck.is) c.is_stuck.ensures

pub returns-in_ok-sense-in-RipFor : goal.returns-in_ok-sense-in-RipFor
returns-in_ok-sense-in-RipFor g c =
    let d = c.args.design.now in
    let s = c.args.state.now in
    let n : ℕ = c.net_of-net.result in
    let ripped : List ℕ = c.in-RipFor.ripped in
    let waiting = c.is_waiting.ensures.0 c.if-not-is_waiting.false in
    let same = rip-right d s c.args.block.now n c.net_of-net.ensures waiting _ c.in-RipFor.soft ripped c.in-RipFor.walk c.in-RipFor.is in
    let must = c.in_ok-must_rip-in-RipFor.ensures.0 c.if-not-branch.false in
    let without : c.in_ok-sense-in-RipFor.sense ≡ Without ripped = c.in_ok-sense-in-RipFor.ensures ∙ ap (λ (xs : List ℕ). Without xs) c.as_slice.ensures in
    tests-same c.is_least-in-RipFor.result (λ least. same.0 (must, least), λ right. (same.1 right).1)
    (subst (λ (x : Sense). IfOk c.is_least-in-RipFor.result (λ b. IsTrue b ↔ IsLeast d n (net_state s n) (reading_of d s n x) c.in-RipFor.walk)) without c.is_least-in-RipFor.ensures)
