use Rattle.std.proofs.Common.{◌≡◌, ◌+◌, ⊎_elim, Contains, IsTrue, rules, true, false, to_z, of_z, w64}
use Rattle.std.proofs.lemmas.Int.{to_z-of_z}
use Rattle.std.proofs.lemmas.List.Elements.{Contains-append_left, Contains-append_right, Contains-append_cases}
use Rattle.track_graph.specs.Levels.{lines_of, lines_below}
use Rattle.track_graph.proofs.GraphLemmas.{lines_of-ascending, lines_below-ascending}
use Rattle.track_graph.proofs.levels.is_position.Goals as goal

pub is_among-requires : goal.is_among-requires
is_among-requires c = rw c.lines_under.ensures (lines_below-ascending _ _ c.args.level c.requires.tracks)

pub is_among-requires-2 : goal.is_among-requires-2
is_among-requires-2 c = rw c.level_lines.ensures (lines_of-ascending _ _ (c.args.level + 1) c.requires.tracks)

pub returns-then-is_among : goal.returns-then-is_among
returns-then-is_among c =
    let z : to_z w64 (of_z w64 c.args.z) ≡ c.args.z = to_z-of_z w64 _ c.ranges.z in
    let t : IsTrue true = search rules in
    let here : Contains (lines_below c.args.design.now.tracks c.args.level) c.args.z = rw (c.lines_under.ensures, z) at (c.if-is_among.ensures.0 t) in
    (λ _. Contains-append_left (lines_below c.args.design.now.tracks c.args.level) (lines_of c.args.design.now.tracks (c.args.level + 1)) c.args.z here, λ _. t)

pub returns : goal.returns
returns c =
    let z : to_z w64 (of_z w64 c.args.z) ≡ c.args.z = to_z-of_z w64 _ c.ranges.z in
    let f : IsTrue false → IsTrue c.is_among-2.result = search rules in (
      λ h. let here : Contains (lines_of c.args.design.now.tracks (c.args.level + 1)) c.args.z = rw (c.level_lines.ensures, z) at (c.is_among-2.ensures.0 h) in
          Contains-append_right (lines_below c.args.design.now.tracks c.args.level) (lines_of c.args.design.now.tracks (c.args.level + 1)) c.args.z here,
      λ h. ⊎_elim
          (λ (b : Contains (lines_below c.args.design.now.tracks c.args.level) c.args.z). f (c.if-is_among.ensures.1 (rw (c.lines_under.ensures, z) b)))
          (λ (b : Contains (lines_of c.args.design.now.tracks (c.args.level + 1)) c.args.z). c.is_among-2.ensures.1 (rw (c.level_lines.ensures, z) b))
          (Contains-append_cases (lines_below c.args.design.now.tracks c.args.level) (lines_of c.args.design.now.tracks (c.args.level + 1)) c.args.z h),
    )
