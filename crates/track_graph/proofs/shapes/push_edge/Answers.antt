use Rattle.track_graph.proofs.EntryLemmas.{edge_via-exists}
use Rattle.track_graph.proofs.shapes.push_edge.Goals as goal

pub push_via-requires-clause-via : goal.push_via-requires-clause-via
push_via-requires-clause-via c = edge_via-exists _ c.args.v c.args.e.now c.in-Via.via c.requires.edge c.in-Via.is
