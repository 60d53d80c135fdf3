use Rattle.rt_base.specs.declared.tech.Tech.{Tech}
use Rattle.cells.proofs.Lists.{AllZip-weaker}
use Rattle.build.specs.Built.{IsViaSaid}
use Rattle.build.proofs.TechLemmas.{tech_is, said_again}
use Rattle.build.proofs.technology.technology.Goals as goal

pub returns-clause-vias : goal.returns-clause-vias
returns-clause-vias c =
    let tech : Tech = record { layers = c.in_ok-tech.tech.layers; vias = c.in_ok-tech-2.field-0 } in
    AllZip-weaker (IsViaSaid c.in_ok-tech.tech) (IsViaSaid tech) (λ s v h. said_again c.in_ok-tech.tech c.in_ok-tech-2.field-0 s v h) c.args.said.now c.in_ok-tech-2.field-0 c.in_ok-tech-2.ensures

pub returns-clause-fits : goal.returns-clause-fits
returns-clause-fits c =
    let lef = c.args.lef.now in
    let tech : Tech = record { layers = c.in_ok-tech.tech.layers; vias = c.in_ok-tech-2.field-0 } in
    tech_is lef tech c.args.said.now c.requires.lef c.in_ok-tech.ensures.layers c.requires.few c.requires.count c.requires.on (returns-clause-vias c)
