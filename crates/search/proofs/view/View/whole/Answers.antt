use Rattle.std.proofs.Common.{◌∙◌, List, is_some, ap, subst, arith}
use Rattle.std.proofs.lemmas.Option.{slice_get-get_or}
use Rattle.rt_base.specs.declared.tech.Shape.{Shape}
use Rattle.search.proofs.WholeLemmas.{whole-stands}
use Rattle.shape_grid.specs.Tiling.{AreSplit}
use Rattle.track_graph.proofs.StateLemmas.{blank}
use Rattle.search.proofs.view.View.whole.Goals as goal

pub returns-clause-stands : goal.returns-clause-stands
returns-clause-stands c =
    whole-stands c.args.design.now c.args.state.now c.in_ok-shapes.shapes.items c.in_ok-tiles.tiles.items _ c.requires.design c.requires.state c.in_ok-shapes.ensures.sums c.in_ok-shapes.ensures.upright
    (subst (λ (ss : List Shape). AreSplit c.args.design.now.grid ss c.in_ok-tiles.tiles.items) c.as_slice.ensures.value c.in_ok-tiles.ensures) c.in_ok-number_tiles.ensures c.in_ok-nets_of.ensures c.in_ok-rips_of.ensures

pub returns-clause-nets : goal.returns-clause-nets
returns-clause-nets c = λ n is_net.
    ap is_some (c.in_ok-nets_of.ensures n ∙ slice_get-get_or c.args.state.now.nets n blank (omega (arith, is_net, c.requires.state.nets)))
