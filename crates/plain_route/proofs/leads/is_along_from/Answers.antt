use Rattle.std.proofs.Common.{◌≡◌, ◌↔◌, ◌<◌, ◌+◌, ℕ, ℤ, length, Contains, IsTrue, true, to_z, of_z, w64, sym, subst, ◌∙◌, rules}
use Rattle.std.proofs.lemmas.Int.{to_z-of_z}
use Rattle.track_graph.specs.Edges.{AreNeighbours}
use Rattle.track_graph.specs.Levels.{levels, lines_of, positions_of, along, line_of}
use Rattle.track_graph.proofs.GraphLemmas.{lines_of-ascending, lines_below-ascending}
use Rattle.plain_route.proofs.VertexLemmas.{IsOnTrack, listed_on_track}
use Rattle.plain_route.proofs.leads.is_along_from.Goals as goal

pub are_next-requires-clause-under : goal.are_next-requires-clause-under
are_next-requires-clause-under c = rw c.lines_under-under.ensures (lines_below-ascending _ _ c.args.v.level c.requires.design.tracks)

pub are_next-requires-clause-over : goal.are_next-requires-clause-over
are_next-requires-clause-over c = rw c.level_lines-over.ensures (lines_of-ascending _ _ (c.args.v.level + 1) c.requires.design.tracks)

pub returns : goal.returns
returns c =
    let d = c.args.design.now in
    let v = c.args.v in
    let w = c.args.w in
    let t : IsTrue true = search rules in
    let on : IsOnTrack d v = listed_on_track d v c.requires.listed in
    let from : to_z w64 (of_z w64 c.along_of-from.result) ≡ along d.tech v.level v.point = to_z-of_z w64 _ (search rules) ∙ c.along_of-from.ensures in
    let to : to_z w64 (of_z w64 c.along_of-to.result) ≡ along d.tech v.level w.point = to_z-of_z w64 _ (search rules) ∙ c.along_of-to.ensures in
    let near : IsTrue c.are_next.result ↔ (Contains (positions_of d.tracks v.level) (along d.tech v.level w.point) × AreNeighbours (positions_of d.tracks v.level) (along d.tech v.level v.point) (along d.tech v.level w.point)) = rw (from, to, c.lines_under-under.ensures, c.level_lines-over.ensures) at c.are_next.ensures in
    let same_line : line_of d.tech v.level v.point ≡ line_of d.tech v.level w.point = let h = c.if-line-line_at.false in search rules in
    let level : v.level ≡ w.level = search rules in (
      λ r.
          let n = near.0 r in
          record {
            start = record { level = on.level; in_die = c.if-not-holds.ensures.0 t; on_track = on.on_track; at_position = on.at_position };
            end = record {
              level = subst (λ (k : ℕ). k < length (levels d.tech)) level on.level;
              in_die = c.if-not-holds-2.ensures.0 t;
              on_track = subst (λ (k : ℕ). Contains (lines_of d.tracks k) (line_of d.tech k w.point)) level (subst (λ (z : ℤ). Contains (lines_of d.tracks v.level) z) same_line on.on_track);
              at_position = subst (λ (k : ℕ). Contains (positions_of d.tracks k) (along d.tech k w.point)) level n.0;
            };
            kind = record { level = level; line = same_line; neighbours = n.1 };
          },
      λ h. near.1 (subst (λ (k : ℕ). Contains (positions_of d.tracks k) (along d.tech k w.point)) (sym level) h.end.at_position, h.kind.neighbours),
    )
