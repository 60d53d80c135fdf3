use Rattle.std.proofs.Common.{◌≡◌, ◌≤◌, ℕ, List, length, map, drop}
use Rattle.rt_base.specs.declared.tech.Via.{Via}
use Rattle.def_wires.specs.Names.{found_in, last_from}
use Rattle.def_wires.proofs.names.via_index.Given as goal

abbrev pub invariant-vias : goal.invariant-vias
invariant-vias l = record {
  found : (word : List ℕ) → found_in l.index word ≡ last_from word l.k (map (λ (x : Via). x.name) (drop l.k l.vias));
  paired : length l.index.names ≡ length l.index.places;
  some : l.k ≤ length l.vias;
}

abbrev pub decreases-vias : goal.decreases-vias
decreases-vias l = l.k
