use Rattle.std.proofs.Common.{◌&&◌, take}
use Rattle.std.specs.List.{list_any}
use Rattle.legality.specs.Rules.{rule_forbids}
use Rattle.legality.specs.Found.{Adds}
use Rattle.legality.proofs.blocked.forbidden_in.Given as goal

abbrev pub invariant-loop-row : goal.invariant-loop-row
invariant-loop-row g l = Adds (λ z. list_any (λ r. list_any (λ s. g.T.ShapeTest.verdict l.test s && rule_forbids r.rule l.level l.line z s.rect) r.shapes) (take l.row-index l.rows)) l.fn.found.items l.found.items
