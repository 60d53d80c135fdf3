use Rattle.std.proofs.Common.{◌≡◌, ◌++◌, List, ℕ, sum_by}
use Rattle.std.specs.Prelude.{codes}
use Rattle.std.specs.List.{enumerate_from}
use Rattle.report.specs.Lines.{count_line, net_vias, net_wire, rips_of}
use Rattle.track_graph.proofs.PathLemmas.{joined}
use Rattle.report.proofs.lines.wire_counts.Goals as goal

pub returns : goal.returns
returns c =
    let t : List ℕ = c.args.text.now in
    let rips : List ℕ = count_line (codes "rips") (sum_by rips_of c.args.blocks.now) in
    let wire : List ℕ = count_line (codes "wire") (sum_by (net_wire c.args.design.now) (enumerate_from 0 c.as_slice-states.result.now)) in
    let vias : List ℕ = count_line (codes "vias") (sum_by net_vias c.as_slice-states.result.now) in
    let skipped : List ℕ = count_line (codes "skipped") (sum_by (λ (s : List ℕ × ℕ). s.1) c.as_slice.result.now) in
    let all : c.all_skipped_line.new.text ≡ t ++ (rips ++ wire ++ vias ++ skipped) =
    joined t _ _ (rips ++ wire ++ vias) skipped
    (joined t _ _ (rips ++ wire) vias (joined t _ _ rips wire c.in_ok-rips_line.ensures c.in_ok-wire_line.ensures) c.in_ok-vias_line.ensures)
    c.in_ok-all_skipped_line.ensures in
    rw (c.as_slice-states.ensures, c.as_slice.ensures) at all
