use Rattle.std.proofs.Common.{◌++◌, List, ℕ}
use Rattle.std.specs.Prelude.{codes}
use Rattle.track_graph.proofs.PathLemmas.{joined}
use Rattle.journal_text.specs.Lines.{line, net_line, ripped_line, walk_lines}
use Rattle.journal_text.proofs.rip.Goals as goal

pub returns : goal.returns
returns c =
    let t : List ℕ = c.args.text.now in
    let name : List ℕ = net_line (codes "rip ") c.args.design.now c.args.net in
    let soft : List ℕ = walk_lines c.args.design.now.tech c.args.soft.now in
    let nets : List ℕ = ripped_line c.args.design.now c.args.nets.now in
    let wire : List ℕ = walk_lines c.args.design.now.tech c.args.wire.now in
    joined t _ _ (name ++ soft ++ nets ++ wire) (line (codes "end"))
    (joined t _ _ (name ++ soft ++ nets) wire
    (joined t _ _ (name ++ soft) nets (joined t _ _ name soft c.in_ok-net_line.ensures c.in_ok-walk.ensures) c.in_ok-ripped_line.ensures)
    c.in_ok-walk-2.ensures)
    c.in_ok-bytes.ensures.ok
