use Rattle.std.proofs.Common.{◌&&◌, take}
use Rattle.std.specs.List.{list_any}
use Rattle.legality.specs.Forbidden.{is_near_at}
use Rattle.legality.specs.Found.{Adds}
use Rattle.legality.proofs.row.forbidden_in.Given as goal

abbrev pub invariant-loop-band : goal.invariant-loop-band
invariant-loop-band g l = Adds (λ z. list_any (λ b. list_any (λ s. g.T.ShapeTest.verdict l.test s && is_near_at l.mover s.rect z) b) (take l.band-index l.bands)) l.fn.found.items l.found.items
