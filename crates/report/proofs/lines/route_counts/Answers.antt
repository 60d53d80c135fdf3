use Rattle.std.proofs.Common.{◌++◌, List, ℕ, count_by, length}
use Rattle.std.specs.Prelude.{codes}
use Rattle.std.specs.List.{zip}
use Rattle.report.specs.Lines.{count_line, is_done, is_open}
use Rattle.track_graph.proofs.PathLemmas.{joined}
use Rattle.report.proofs.lines.route_counts.Goals as goal

pub returns : goal.returns
returns c =
    let t : List ℕ = c.args.text.now in
    let nets : List ℕ = count_line (codes "nets") (length c.args.nets.now) in
    let joined_nets : List ℕ = count_line (codes "joined") (count_by is_done (zip c.args.nets.now c.args.states.now)) in
    let stuck : List ℕ = count_line (codes "stuck") (count_by is_open (zip c.args.nets.now c.args.states.now)) in
    joined t _ _ (nets ++ joined_nets) stuck (joined t _ _ nets joined_nets c.in_ok-count_line.ensures c.in_ok-joined_line.ensures) c.in_ok-stuck_line.ensures
