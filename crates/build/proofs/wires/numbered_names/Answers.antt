use Rattle.std.proofs.Common.{◌+◌, length, ap, arith}
use Rattle.rt_base.specs.declared.tech.Tech.{Tech}
use Rattle.build.proofs.wires.numbered_names.Goals as goal

pub wire_tech-requires-clause-few : goal.wire_tech-requires-clause-few
wire_tech-requires-clause-few c = omega (arith, ap (λ (t : Tech). length t.vias) c.in_ok-tech.ensures, ap length c.as_slice-vias.ensures, c.requires.few)
