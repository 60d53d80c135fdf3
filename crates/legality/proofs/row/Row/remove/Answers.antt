use Rattle.std.proofs.Common.{◌≡◌, Bool, true, false, List, ap}
use Rattle.std.specs.Bool.{OnFalse}
use Rattle.rt_base.specs.declared.tech.Shape.{Shape}
use Rattle.legality.specs.Rows.{in_bands}
use Rattle.legality.proofs.RowLemmas.{layer_taken}
use Rattle.legality.proofs.row.Row.remove.Goals as goal

all_same : (r : Bool) (olds news : List (List Shape)) → OnFalse r (news ≡ olds) → OnFalse r (in_bands news ≡ in_bands olds)
all_same true olds news same = tt
all_same false olds news same = ap (λ (l : List (List Shape)). in_bands l) same

pub invariant_of-self : goal.invariant_of-self
invariant_of-self c =
    (c.self.invariant.0, layer_taken c.take_from.result c.self.inside.layer.0 c.args.shape.now (in_bands c.self.inside.bands.items) (in_bands c.take_from.new.bands.items) c.self.invariant.1 c.take_from.ensures.found (all_same c.take_from.result c.self.inside.bands.items c.take_from.new.bands.items c.take_from.ensures.same))
