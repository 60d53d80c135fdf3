use Rattle.std.proofs.Common.{◌∙◌, ◌&&◌, Bool, List, ap}
use Rattle.std.specs.List.{list_any}
use Rattle.rt_base.specs.declared.tech.Shape.{Shape}
use Rattle.search.specs.declared.piece.Piece.{Piece}
use Rattle.shape_grid.specs.Stores.{is_touching}
use Rattle.shape_grid.proofs.Tables.{any_parts}
use Rattle.search.proofs.stocked.ViewStock.any_near.Goals as goal

pub returns : goal.returns
returns g c =
    let test : Shape → Bool = λ s. is_touching c.args.layer c.args.rect.now s && g.T.ShapeTest.verdict c.args.test.now s in
    c.any_in.ensures
    ∙ ap (λ (ps : List Piece). list_any (λ (p : Piece). list_any test p.tile) ps) c.as_slice.ensures
    ∙ any_parts test (λ (p : Piece). p.tile) c.args.self.now.pieces
