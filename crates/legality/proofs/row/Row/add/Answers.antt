use Rattle.std.proofs.Common.{◌∙◌, ap, sym}
use Rattle.legality.specs.Rows.{RowOf, in_bands}
use Rattle.legality.proofs.RowLemmas.{layer_more}
use Rattle.legality.proofs.row.Row.add.Goals as goal

pub invariant_of-self : goal.invariant_of-self
invariant_of-self c =
    (c.self.invariant.0, layer_more c.put_into.result c.self.inside.layer.0 c.args.shape.now (in_bands c.self.inside.bands.items) (in_bands c.put_into.new.bands.items) (c.requires.layer ∙ ap (λ (r : RowOf). r.layer.0) (sym c.self.view_is)) c.self.invariant.1 c.put_into.ensures.ok c.put_into.ensures.err)
