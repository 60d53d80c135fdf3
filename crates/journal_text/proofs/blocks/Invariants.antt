use Rattle.std.proofs.Common.{◌≡◌, ◌++◌, take}
use Rattle.std.specs.Prelude.{flat_map}
use Rattle.journal_text.specs.Lines.{block_lines}
use Rattle.journal_text.proofs.blocks.Given as goal

abbrev pub invariant-loop-next : goal.invariant-loop-next
invariant-loop-next l = l.text ≡ l.fn.text ++ flat_map (block_lines l.design) (take l.next-index l.blocks)
