use Rattle.std.proofs.Common.{◌≡◌, ◌∙◌, pos, subst, ap, to_z, w64, rules}
use Rattle.rt_base.specs.Geometry.{grown}
use Rattle.rt_base.specs.Sides.{Sides}
use Rattle.regions.specs.Tiles.{AddsMet}
use Rattle.regions.proofs.TileLemmas.{runs_more, runs_all}
use Rattle.regions.proofs.tiles.met.Goals as goal

pub loop-guide_box-preserved : goal.loop-guide_box-preserved
loop-guide_box-preserved c =
    let g = c.args.grid.now in
    let old = c.loop-guide_box.runs.items in
    let new = c.add_met.new.runs.items in
    let by : to_z w64 c.args.halo ≡ pos c.args.halo = search rules in
    runs_more g (pos c.args.halo) c.args.boxes.now c.loop-guide_box.guide_box-index c.guide_box-item.result old new c.loop-guide_box-test.true c.guide_box-item.is (subst (λ (s : Sides). AddsMet g s old new) (c.grown.ensures ∙ ap (grown c.guide_box-item.result.1) by) c.in_ok-add_met.ensures) c.loop-guide_box.invariant

pub returns-clause-exact : goal.returns-clause-exact
returns-clause-exact c = (runs_all c.args.grid.now (pos c.args.halo) c.args.boxes.now c.loop-guide_box.guide_box-index c.loop-guide_box.runs.items c.loop-guide_box-test.false c.loop-guide_box.invariant).exact
