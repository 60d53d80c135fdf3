use Rattle.std.proofs.Common.{◌≡◌, ◌++◌, take}
use Rattle.std.specs.Prelude.{flat_map}
use Rattle.journal_text.specs.Lines.{stroke_line}
use Rattle.journal_text.proofs.strokes.Given as goal

abbrev pub invariant-loop-next : goal.invariant-loop-next
invariant-loop-next l = l.text ≡ l.fn.text ++ flat_map (stroke_line l.tech) (take l.next-index l.strokes)
