use Rattle.regions.proofs.TileLemmas.{AddsRows}
use Rattle.regions.proofs.tiles.add_met.Given as goal

abbrev pub invariant-loop-row : goal.invariant-loop-row
invariant-loop-row l = AddsRows l.grid l.rect l.row l.initial.runs.items l.runs.items
