use Rattle.std.proofs.Common.{◌≡◌, ◌∙◌, ◌<◌, All, List, length, get_or, take, take_all, sym, arith}
use Rattle.std.proofs.lemmas.Int.{ints}
use Rattle.std.proofs.lemmas.List.Elements.{All-more}
use Rattle.rt_base.specs.Tiles.{side_of}
use Rattle.rt_base.specs.declared.tech.Shape.{Shape}
use Rattle.shape_grid.specs.Tiling.{IsUpright}
use Rattle.shape_grid.proofs.Tiled.{spans_test, tile_next, meets_test}
use Rattle.shape_grid.proofs.tiles.split.Goals as goal

pub loop-shape-preserved : goal.loop-shape-preserved
loop-shape-preserved c =
    let g = c.args.grid.now in
    let xs = c.args.shapes.now in
    let i = c.loop-shape.shape-index in
    let x = c.shape-item.result in
    let some : 0 < side_of g = omega (arith, ints, c.requires.side) in
    record {
      many = c.in_ok-add_to_tiles.ensures.many ∙ c.loop-shape.invariant.many;
      upright = All-more (λ (s : Shape). IsUpright s.rect) xs i x c.loop-shape-test.true c.loop-shape.invariant.upright (rw (← c.shape-item.is) c.in_ok-add_to_tiles.ensures.upright);
      each = λ t less. (
          let was : t < length c.loop-shape.tiles.items = rw (← c.in_ok-add_to_tiles.ensures.many) less in
          tile_next g t xs i x _ _ some c.loop-shape-test.true c.shape-item.is c.in_ok-add_to_tiles.ensures.upright (c.in_ok-add_to_tiles.ensures.each t was) (c.loop-shape.invariant.each t was)
          );
    }

pub returns : goal.returns
returns c =
    let g = c.args.grid.now in
    let xs = c.args.shapes.now in
    let some : 0 < side_of g = omega (arith, ints, c.requires.side) in
    let whole = take_all c.loop-shape.shape-index xs c.loop-shape-test.false in
    let up : All (λ (s : Shape). IsUpright s.rect) xs = rw whole at c.loop-shape.invariant.upright in
    record {
      many = c.loop-shape.invariant.many;
      each = λ t less. (record {
        test = spans_test g t;
        meets = λ k d within. meets_test g t (get_or xs k d) some (up k d within);
        are = rw whole at (c.loop-shape.invariant.each t less);
      });
    }
