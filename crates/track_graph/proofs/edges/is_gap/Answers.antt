use Rattle.std.proofs.Common.{◌≡◌, ◌↔◌, ◌≤ℤ◌, to_z, of_z, w64, rules, arith}
use Rattle.track_graph.proofs.GraphLemmas.{gap_ends_at_next, gap_without_next}
use Rattle.track_graph.specs.Levels.{NoneBetween}
use Rattle.std.proofs.lemmas.Int.{ints, to_z-of_z}
use Rattle.std.proofs.lemmas.Option.{gets}
use Rattle.std.proofs.lemmas.Grind.{common_steps}
use Rattle.std.specs.Int.Signed.{le_z_yes}
use Rattle.track_graph.proofs.edges.is_gap.Goals as goal

pub returns-in-Some : goal.returns-in-Some
returns-in-Some c =
    let low : to_z w64 (of_z w64 c.args.low) ≡ c.args.low = to_z-of_z w64 _ c.ranges.low in
    let high : to_z w64 (of_z w64 c.args.high) ≡ c.args.high = to_z-of_z w64 _ c.ranges.high in
    let next : to_z w64 (of_z w64 c.in-Some.next.now) ≡ c.in-Some.next.now = to_z-of_z w64 _ (search rules) in
    let both : (c.args.high ≤ℤ c.in-Some.next.now) ↔ NoneBetween c.args.lines.now c.args.low c.args.high =
    gap_ends_at_next c.args.lines.now c.args.low c.args.high _ c.in-Some.next.now c.requires (rw low at c.count_up_to.ensures.parts) (let lk = c.in-Some.ensures.lookup in first_of (search (rules, gets), grind (arith, common_steps, gets))) in
    rw (high, next) (λ t. both.0 (le_z_yes (first_of (search rules, grind arith))), λ n. let h = both.1 n in first_of (search rules, grind (arith, ints)))

pub returns-in-None : goal.returns-in-None
returns-in-None c =
    let low : to_z w64 (of_z w64 c.args.low) ≡ c.args.low = to_z-of_z w64 _ c.ranges.low in
    let none : NoneBetween c.args.lines.now c.args.low c.args.high = gap_without_next _ c.args.low c.args.high _ (rw low at c.count_up_to.ensures.parts) (search rules) in
    (λ _. none, λ _. search rules)
