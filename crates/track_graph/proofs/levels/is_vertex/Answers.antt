use Rattle.std.proofs.Common.{◌≡◌, ◌∙◌, sym, ap, is_some, IsTrue, rules, true, to_z, of_z, w64}
use Rattle.std.proofs.lemmas.Int.{to_z-of_z}
use Rattle.std.proofs.lemmas.Bool.{false≢true}
use Rattle.track_graph.proofs.GraphLemmas.{level_within, lines_of-ascending}
use Rattle.track_graph.proofs.levels.is_vertex.Goals as goal

pub is_among-requires : goal.is_among-requires
is_among-requires c = rw c.level_lines.ensures (lines_of-ascending _ _ c.args.v.level c.requires.tracks)

pub returns-then-not-is_among : goal.returns-then-not-is_among
returns-then-not-is_among c =
    let line : to_z w64 (of_z w64 c.line_at-line.result) ≡ c.line_at-line.result = to_z-of_z w64 _ (search rules) in
    (λ f. absurd (false≢true f), λ h. c.if-not-is_among.ensures.1 (rw (line, c.line_at-line.ensures, c.level_lines.ensures) h.on_track))

pub returns-then-not-is_position : goal.returns-then-not-is_position
returns-then-not-is_position c =
    let place : to_z w64 (of_z w64 c.along_of-position.result) ≡ c.along_of-position.result = to_z-of_z w64 _ (search rules) in
    (λ f. absurd (false≢true f), λ h. c.if-not-is_position.ensures.1 (rw (place, c.along_of-position.ensures) h.at_position))

pub returns : goal.returns
returns c =
    let t : IsTrue true = search rules in
    let line : to_z w64 (of_z w64 c.line_at-line.result) ≡ c.line_at-line.result = to_z-of_z w64 _ (search rules) in
    let place : to_z w64 (of_z w64 c.along_of-position.result) ≡ c.along_of-position.result = to_z-of_z w64 _ (search rules) in (
      λ _. record {
        level = level_within _ c.args.v.level (ap is_some (sym c.layer_number.ensures) ∙ c.if-is_none.ensures);
        in_die = c.if-not-holds.ensures.0 t;
        on_track = rw (line, c.line_at-line.ensures, c.level_lines.ensures) at (c.if-not-is_among.ensures.0 t);
        at_position = rw (place, c.along_of-position.ensures) at (c.if-not-is_position.ensures.0 t);
      },
      λ _. t,
    )
