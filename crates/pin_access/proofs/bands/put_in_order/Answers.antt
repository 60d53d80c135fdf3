use Rattle.pin_access.specs.Bands.{IsIn}
use Rattle.pin_access.proofs.Banding.{in_order_from_sorted, any_permutation}
use Rattle.pin_access.proofs.bands.put_in_order.Goals as goal

pub returns-clause-ordered : goal.returns-clause-ordered
returns-clause-ordered c = in_order_from_sorted c.sort_unstable.new.self.items c.sort_unstable.ensures.sorted

pub returns-clause-same : goal.returns-clause-same
returns-clause-same c z = any_permutation (IsIn z) c.args.spans.now.items c.sort_unstable.new.self.items c.sort_unstable.ensures.permutation
