use Rattle.std.proofs.Common.{◌++◌, List, ℕ}
use Rattle.std.specs.Prelude.{codes}
use Rattle.track_graph.proofs.PathLemmas.{joined}
use Rattle.journal_text.specs.Lines.{line, net_line, walk_lines}
use Rattle.journal_text.proofs.wire.Goals as goal

pub returns : goal.returns
returns c =
    let t : List ℕ = c.args.text.now in
    let name : List ℕ = net_line (codes "wire ") c.args.design.now c.args.net in
    let lines : List ℕ = walk_lines c.args.design.now.tech c.args.wire.now in
    joined t _ _ (name ++ lines) (line (codes "end")) (joined t _ _ name lines c.in_ok-net_line.ensures c.in_ok-walk.ensures) c.in_ok-bytes.ensures.ok
