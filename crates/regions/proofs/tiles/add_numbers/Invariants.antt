use Rattle.std.proofs.Common.{◌≤◌, pos, ◌+ℤ◌, unsigned_abs}
use Rattle.regions.proofs.TileLemmas.{AddsNumbers}
use Rattle.regions.proofs.tiles.add_numbers.Given as goal

abbrev pub invariant-loop-tile : goal.invariant-loop-tile
invariant-loop-tile l = AddsNumbers (unsigned_abs l.fn.run.lo) l.tile l.initial.tiles.items l.tiles.items × (l.tile ≤ unsigned_abs (l.fn.run.hi +ℤ pos 1))
