use Rattle.std.proofs.Common.{◌↔◌, ◌<◌, ℕ, pos, length, Contains, Vec, Global, arith}
use Rattle.std.proofs.lemmas.Int.{ints}
use Rattle.std.proofs.lemmas.Result.{IfOk-weaker}
use Rattle.regions.specs.Spans.{InSpans}
use Rattle.regions.specs.Tiles.{IsTileOf}
use Rattle.regions.proofs.TileLemmas.{ends_small, slice_small, tiles_same}
use Rattle.regions.proofs.Bounds.{halo_most}
use Rattle.regions.proofs.CoverLemmas.{guide_sides_wide}
use Rattle.regions.proofs.tiles.tiles_of.Goals as goal

pub met-requires-clause-boxes : goal.met-requires-clause-boxes
met-requires-clause-boxes c = guide_sides_wide c.args.design.now c.args.net c.guide_of-boxes.result.now c.requires c.guide_of-boxes.ensures

pub met-requires-clause-halo : goal.met-requires-clause-halo
met-requires-clause-halo c = halo_most c.args.design.now c.halo.result c.requires c.halo.ensures

pub maximal_spans-requires-clause-small : goal.maximal_spans-requires-clause-small
maximal_spans-requires-clause-small c k d lt =
    let h = ends_small c.args.design.now.grid (pos c.halo.result) c.guide_of-boxes.result.now c.in_ok-runs.runs.items c.requires.grid.tile_count c.in_ok-runs.ensures.full (λ z j. (c.in_ok-runs.ensures.exact z).0 j) k d lt in
    omega (arith, ints, h.1.1)

pub numbers-requires-clause-low : goal.numbers-requires-clause-low
numbers-requires-clause-low c k d lt =
    (slice_small c.args.design.now.grid (pos c.halo.result) c.guide_of-boxes.result.now c.in_ok-runs.runs.items c.in_ok-runs-2.runs.items c.as_slice.result.now c.requires.grid.tile_count c.as_slice.ensures.value c.in_ok-runs.ensures.exact c.in_ok-runs-2.ensures k d lt).0.0

pub numbers-requires-clause-high : goal.numbers-requires-clause-high
numbers-requires-clause-high c k d lt =
    (slice_small c.args.design.now.grid (pos c.halo.result) c.guide_of-boxes.result.now c.in_ok-runs.runs.items c.in_ok-runs-2.runs.items c.as_slice.result.now c.requires.grid.tile_count c.as_slice.ensures.value c.in_ok-runs.ensures.exact c.in_ok-runs-2.ensures k d lt).1.1

pub returns-clause-exact : goal.returns-clause-exact
returns-clause-exact c =
    let d = c.args.design.now in
    let slice = c.as_slice.result.now in
    let some : 0 < length c.guide_of-boxes.result.now = grind (arith, c.if-is_empty.false, c.is_empty.ensures) in
    IfOk-weaker c.numbers.result (λ (v : Vec ℕ Global). (t : ℕ) → Contains v.items t ↔ InSpans slice (pos t)) (λ (v : Vec ℕ Global). (tile : ℕ) → Contains v.items tile ↔ IsTileOf d c.args.net tile)
    (λ v h. tiles_same d c.args.net c.halo.result c.guide_of-boxes.result.now c.in_ok-runs.runs.items c.in_ok-runs-2.runs.items slice v.items c.guide_of-boxes.ensures some c.halo.ensures c.in_ok-runs.ensures.exact c.in_ok-runs-2.ensures c.as_slice.ensures.value h)
    c.numbers.ensures.exact
