use Rattle.std.proofs.Common.{◌≡◌, ◌++◌, take}
use Rattle.std.specs.Prelude.{flat_map}
use Rattle.def_out.specs.Wiring.{further_text}
use Rattle.def_out.proofs.further.Given as goal

abbrev pub invariant-loop-next : goal.invariant-loop-next
invariant-loop-next l = l.text ≡ l.fn.text ++ flat_map (further_text l.tech) (take l.next-index l.strokes)
