use Rattle.std.proofs.Common.{◌≡◌, ◌≤◌, ℕ, List, length, map, drop}
use Rattle.rt_base.specs.declared.tech.Layer.{Layer}
use Rattle.def_wires.specs.Names.{found_in, last_from}
use Rattle.def_wires.proofs.names.layer_index.Given as goal

abbrev pub invariant-layers : goal.invariant-layers
invariant-layers l = record {
  found : (word : List ℕ) → found_in l.index word ≡ last_from word l.k (map (λ (x : Layer). x.name) (drop l.k l.layers));
  paired : length l.index.names ≡ length l.index.places;
  some : l.k ≤ length l.layers;
}

abbrev pub decreases-layers : goal.decreases-layers
decreases-layers l = l.k
