use Rattle.std.proofs.Common.{ap, ◌≡◌, ◌+◌, ◌↔◌, to_z, of_z, w64, rules, IsTrue, true, false, ◌∙◌}
use Rattle.std.specs.Int.{int_min, int_max}
use Rattle.std.proofs.lemmas.Bool.{false≢true}
use Rattle.std.proofs.lemmas.Int.{to_z-of_z}
use Rattle.track_graph.specs.Levels.{lines_below, lines_of, NoneBetween}
use Rattle.track_graph.proofs.GraphLemmas.{lines_of-ascending, lines_below-ascending, none_between_append, none_between_left, none_between_right}
use Rattle.track_graph.proofs.edges.are_neighbours.Goals as goal

pub is_gap-requires : goal.is_gap-requires
is_gap-requires c = rw c.lines_under.ensures (lines_below-ascending _ _ c.args.level c.requires.tracks)

pub is_gap-requires-2 : goal.is_gap-requires-2
is_gap-requires-2 c = rw c.level_lines.ensures (lines_of-ascending _ _ (c.args.level + 1) c.requires.tracks)

pub returns-then-not-is_gap : goal.returns-then-not-is_gap
returns-then-not-is_gap c =
    let tracks = c.args.design.now.tracks in
    let a : to_z w64 (of_z w64 c.args.a) ≡ c.args.a = to_z-of_z w64 _ c.ranges.a in
    let b : to_z w64 (of_z w64 c.args.b) ≡ c.args.b = to_z-of_z w64 _ c.ranges.b in
    let low : to_z w64 (of_z w64 c.min-low.result) ≡ int_min c.args.a c.args.b = to_z-of_z w64 _ (search rules) ∙ (rw (a, b) at c.min-low.ensures.value) in
    let high : to_z w64 (of_z w64 c.max-high.result) ≡ int_max c.args.a c.args.b = to_z-of_z w64 _ (search rules) ∙ (rw (a, b) at c.max-high.ensures.value) in
    let below : IsTrue false ↔ NoneBetween (lines_below tracks c.args.level) (int_min c.args.a c.args.b) (int_max c.args.a c.args.b) = rw (low, high, c.lines_under.ensures) at c.if-not-is_gap.ensures in
    (λ f. absurd (false≢true f), λ h. below.1 (none_between_left (lines_below tracks c.args.level) (lines_of tracks (c.args.level + 1)) _ _ h.1))

pub returns : goal.returns
returns c =
    let tracks = c.args.design.now.tracks in
    let a : to_z w64 (of_z w64 c.args.a) ≡ c.args.a = to_z-of_z w64 _ c.ranges.a in
    let b : to_z w64 (of_z w64 c.args.b) ≡ c.args.b = to_z-of_z w64 _ c.ranges.b in
    let low : to_z w64 (of_z w64 c.min-low.result) ≡ int_min c.args.a c.args.b = to_z-of_z w64 _ (search rules) ∙ (rw (a, b) at c.min-low.ensures.value) in
    let high : to_z w64 (of_z w64 c.max-high.result) ≡ int_max c.args.a c.args.b = to_z-of_z w64 _ (search rules) ∙ (rw (a, b) at c.max-high.ensures.value) in
    let below : IsTrue true ↔ NoneBetween (lines_below tracks c.args.level) (int_min c.args.a c.args.b) (int_max c.args.a c.args.b) = rw (low, high, c.lines_under.ensures) at c.if-not-is_gap.ensures in
    let above : IsTrue c.is_gap-2.result ↔ NoneBetween (lines_of tracks (c.args.level + 1)) (int_min c.args.a c.args.b) (int_max c.args.a c.args.b) = rw (low, high, c.level_lines.ensures) at c.is_gap-2.ensures in (
      λ t. (λ same. c.if-a-b.false (ap (of_z w64) same), none_between_append (lines_below tracks c.args.level) (lines_of tracks (c.args.level + 1)) _ _ (below.0 (search rules)) (above.0 t)),
      λ h. above.1 (none_between_right (lines_below tracks c.args.level) (lines_of tracks (c.args.level + 1)) _ _ h.1),
    )
