use Rattle.std.proofs.Common.{ℤ, ◌&&◌, List}
use Rattle.std.specs.List.{list_any}
use Rattle.rt_base.specs.declared.tech.Shape.{Shape}
use Rattle.shape_grid.proofs.Tables.{any_parts}
use Rattle.legality.specs.Forbidden.{is_near_at}
use Rattle.legality.specs.Rows.{in_bands}
use Rattle.legality.proofs.FoundLemmas.{adds_same, adds_more, adds_all}
use Rattle.legality.proofs.row.forbidden_in.Goals as goal

pub loop-band-preserved : goal.loop-band-preserved
loop-band-preserved g c =
    adds_more (λ (b : List Shape) (z : ℤ). list_any (λ s. g.T.ShapeTest.verdict c.args.test.now s && is_near_at c.args.mover.now s.rect z) b) c.args.bands.now c.loop-band.band-index c.band-item.result c.args.found.now.items c.loop-band.found.items c.forbidden_into.new.found.items
    c.loop-band-test.true c.band-item.is c.loop-band.invariant c.in_ok-forbidden_into.ensures

pub returns : goal.returns
returns g c =
    let test = λ (b : List Shape) (z : ℤ). list_any (λ s. g.T.ShapeTest.verdict c.args.test.now s && is_near_at c.args.mover.now s.rect z) b in
    adds_same (λ z. list_any (λ b. test b z) c.args.bands.now) (λ z. test (in_bands c.args.bands.now) z) c.args.found.now.items c.loop-band.found.items
    (λ z. any_parts (λ s. g.T.ShapeTest.verdict c.args.test.now s && is_near_at c.args.mover.now s.rect z) (λ (b : List Shape). b) c.args.bands.now)
    (adds_all test c.args.bands.now c.loop-band.band-index c.args.found.now.items c.loop-band.found.items c.loop-band-test.false c.loop-band.invariant)
