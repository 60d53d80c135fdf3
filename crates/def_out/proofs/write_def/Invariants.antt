use Rattle.std.proofs.Common.{◌≡◌, ◌++◌, ◌<◌, ◌≤◌, ℕ, drop, get_or, length}
use Rattle.track_graph.specs.declared.design.Net.{Net}
use Rattle.def_out.specs.Wiring.{routed_def, routed_from}
use Rattle.def_out.proofs.write_def.Given as goal

abbrev pub invariant-loop-i : goal.invariant-loop-i
invariant-loop-i l = record {
  written : l.out ++ routed_from l.text l.design l.state l.i l.from (drop l.i l.nets) ≡ routed_def l.text l.design l.state;
  ahead : (k : ℕ) (d : Net) → l.i ≤ k → k < length l.nets → l.from ≤ (get_or l.nets k d).close;
  within : l.from ≤ length l.text;
}
