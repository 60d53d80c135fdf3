use Rattle.std.proofs.Common.{◌≡◌, ◌++◌, map, take, All}
use Rattle.def_text.specs.Defs.{IsMetal}
use Rattle.def_text.specs.Pins.{placed_metal}
use Rattle.def_text.proofs.pins.add_placed.Given as goal

abbrev pub invariant-metal : goal.invariant-metal
invariant-metal l = record { value : l.rects ≡ l.initial.rects ++ map (placed_metal l.at l.orient) (take l.one-index l.metal); small : All IsMetal l.rects }
