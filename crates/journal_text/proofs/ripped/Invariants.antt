use Rattle.std.proofs.Common.{◌≡◌, ◌++◌, take}
use Rattle.std.specs.Prelude.{flat_map}
use Rattle.journal_text.specs.Lines.{ripped_text}
use Rattle.journal_text.proofs.ripped.Given as goal

abbrev pub invariant-loop-net : goal.invariant-loop-net
invariant-loop-net l = l.text ≡ l.fn.text ++ flat_map (ripped_text l.design) (take l.net-index l.nets)
