use Rattle.std.proofs.Common.{◌≡◌, drop, fold}
use Rattle.def_wires.specs.Meaning.{with_metal, reach_of}
use Rattle.def_wires.proofs.joined.joined_by.Given as goal

abbrev pub invariant-loop-metal : goal.invariant-loop-metal
invariant-loop-metal l = fold (with_metal l.tech) l.reach (drop l.metal-index l.rects) ≡ reach_of l.tech l.rects
