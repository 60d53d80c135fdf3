use Rattle.std.proofs.Common.{◌≡◌, ◌∙◌, List, [], sym, subst, arith}
use Rattle.std.specs.List.{AllZip}
use Rattle.rt_base.specs.declared.tech.Tech.{Tech}
use Rattle.rt_base.specs.declared.tech.Via.{Via}
use Rattle.build.specs.Built.{IsViaSaid}
use Rattle.build.proofs.TechLemmas.{tech_is}
use Rattle.build.proofs.technology.bare.Goals as goal

pub returns-clause-fits : goal.returns-clause-fits
returns-clause-fits c =
    let lef = c.args.lef.now in
    let tech : Tech = record { layers = c.in_ok-copy_layers.field-0; vias = c.new.result } in
    let layers : c.in_ok-copy_layers.field-0 ≡ lef.layers = c.in_ok-copy_layers.ensures ∙ c.as_slice.ensures in
    tech_is lef tech [] c.requires.lef layers c.requires.few (omega arith) (λ k d lt. absurd (omega arith))
    (subst (λ (vs : List Via). AllZip (IsViaSaid tech) [] vs) (sym c.new.ensures) tt)
