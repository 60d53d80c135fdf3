use Rattle.std.proofs.Common.{length, ap, arith}
use Rattle.net_guides.proofs.NameLemmas.{level_count}
use Rattle.net_guides.proofs.tests.answers.Goals as goal

pub boxes-requires : goal.boxes-requires
boxes-requires c = omega (arith, ap length c.in_ok-index.ensures.level_names_are, level_count c.deref.result.now, ap length c.deref.ensures.value, c.in_ok-layers.ensures.few)
