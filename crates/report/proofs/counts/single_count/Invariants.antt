use Rattle.std.proofs.Common.{◌≡◌, count_by, take}
use Rattle.track_graph.specs.declared.design.Net.{Net}
use Rattle.report.specs.Lines.{is_single}
use Rattle.report.proofs.counts.single_count.Given as goal

abbrev pub invariant-loop-net : goal.invariant-loop-net
invariant-loop-net l = l.count ≡ count_by (λ (net : Net). is_single net.kind) (take l.net-index l.nets)
