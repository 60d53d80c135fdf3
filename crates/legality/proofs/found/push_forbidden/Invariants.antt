use Rattle.std.proofs.Common.{◌&&◌, take}
use Rattle.std.specs.List.{list_any}
use Rattle.legality.specs.Forbidden.{is_near_at}
use Rattle.legality.specs.Found.{Adds}
use Rattle.legality.proofs.found.push_forbidden.Given as goal

abbrev pub invariant-loop-shape : goal.invariant-loop-shape
invariant-loop-shape g l = Adds (λ z. list_any (λ s. g.T.ShapeTest.verdict l.test s && is_near_at l.mover s.rect z) (take l.shape-index l.shapes)) l.fn.found.items l.found.items
