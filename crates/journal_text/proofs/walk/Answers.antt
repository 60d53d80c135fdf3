use Rattle.std.proofs.Common.{◌++◌, List, ℕ}
use Rattle.std.specs.Prelude.{codes, flat_map}
use Rattle.track_graph.specs.Strokes.{path_strokes}
use Rattle.track_graph.proofs.PathLemmas.{joined}
use Rattle.journal_text.specs.Lines.{entry_line, stroke_line}
use Rattle.journal_text.proofs.walk.Goals as goal

pub returns : goal.returns
returns c =
    let t : List ℕ = c.args.text.now in
    let first : List ℕ = entry_line (codes "from ") c.args.tech.now c.args.walk.now.start in
    let runs : List ℕ = flat_map (stroke_line c.args.tech.now) (path_strokes c.args.walk.now.start.vertex c.args.walk.now.edges) in
    let last : List ℕ = entry_line (codes "to ") c.args.tech.now c.args.walk.now.finish in
    joined t _ _ (first ++ runs) last
    (joined t _ _ first runs c.in_ok-entry_line.ensures (rw (c.deref.ensures.value, c.in_ok-runs.ensures, c.as_slice.ensures) at c.in_ok-strokes.ensures))
    c.in_ok-entry_line-2.ensures
