use Rattle.std.proofs.Common.{◌≡◌, map, take}
use Rattle.rt_base.specs.declared.tech.Via.{Via}
use Rattle.def_wires.specs.Meaning.{joined_by}
use Rattle.def_wires.proofs.names.joined_of.Given as goal

abbrev pub invariant-vias : goal.invariant-vias
invariant-vias l = l.joined ≡ map (λ (v : Via). joined_by l.tech v.rects) (take l.via-index l.tech.vias)
