use Rattle.std.proofs.Common.{arith}
use Rattle.def_text.proofs.Ranges.{left_next}
use Rattle.def_text.proofs.nets.more_net.Goals as goal

pub net_option-requires-clause-plus : goal.net_option-requires-clause-plus
net_option-requires-clause-plus c = omega (arith, c.here-at.ensures, left_next c.args.words.now c.next.new.self _ c.in_ok-word.ensures.0)
