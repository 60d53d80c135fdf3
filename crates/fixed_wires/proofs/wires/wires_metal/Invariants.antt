use Rattle.std.proofs.Common.{◌≡◌, ◌++◌, ◌^◌, length, map, drop, All}
use Rattle.std.specs.List.{flat_map}
use Rattle.def_wires.specs.Meaning.{wiring_metal}
use Rattle.def_wires.specs.Sound.{IsOn}
use Rattle.fixed_wires.specs.FixedWires.{first_fault, values, wiring_said, wires_metal}
use Rattle.fixed_wires.proofs.wires.wires_metal.Given as goal

abbrev pub invariant-parts : goal.invariant-parts
invariant-parts l = record {
  fault : first_fault (map (wiring_said l.on.tech l.text l.tokens l.special) l.ranges) ≡ first_fault (map (wiring_said l.on.tech l.text l.tokens l.special) (drop l.range-index l.ranges));
  metal : wires_metal l.on.tech l.text l.tokens l.special l.ranges ≡ l.metal ++ flat_map (wiring_metal l.on.tech) (values (map (wiring_said l.on.tech l.text l.tokens l.special) (drop l.range-index l.ranges)));
  within : All (IsOn (length l.on.tech.layers) (2 ^ 62)) l.metal;
}
