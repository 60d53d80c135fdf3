use Rattle.std.proofs.Common.{◌≡◌, ◌++◌, ◌+◌, ◌^◌, length, map, drop, All}
use Rattle.rt_base.specs.declared.tech.Via.{Via}
use Rattle.def_wires.specs.Sound.{IsOn}
use Rattle.fixed_wires.specs.FixedWires.{first_fault, values, via_said}
use Rattle.fixed_wires.proofs.vias.read_vias.Given as goal

abbrev pub invariant-items : goal.invariant-items
invariant-items l = record {
  fault : first_fault (map (via_said l.tech l.text l.tokens) l.vias) ≡ first_fault (map (via_said l.tech l.text l.tokens) (drop l.via-index l.vias));
  read : values (map (via_said l.tech l.text l.tokens) l.vias) ≡ l.read ++ values (map (via_said l.tech l.text l.tokens) (drop l.via-index l.vias));
  sound : All (λ (v : Via). All (IsOn (length l.tech.layers) (2 ^ 60 + 2 ^ 30)) v.rects) l.read;
}
