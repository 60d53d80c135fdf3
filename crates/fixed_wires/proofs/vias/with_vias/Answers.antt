use Rattle.std.proofs.Common.{◌+◌, ◌^◌, List, length, All, sym, ap, subst, arith}
use Rattle.std.proofs.lemmas.List.{length-append}
use Rattle.std.proofs.lemmas.List.Elements.{All-append}
use Rattle.rt_base.specs.declared.tech.Via.{Via}
use Rattle.def_wires.specs.Sound.{IsOn}
use Rattle.fixed_wires.proofs.vias.with_vias.Goals as goal

pub returns-clause-fits : goal.returns-clause-fits
returns-clause-fits c =
    let On : Via → Type 0 = λ v. All (IsOn (length c.args.tech.layers) (2 ^ 60 + 2 ^ 30)) v.rects in
    record {
      few_layers = c.requires.tech.few_layers;
      few_vias = omega (arith, ap length c.in_ok-append.ensures, length-append c.args.tech.vias c.args.vias, c.requires.few);
      widths = c.requires.tech.widths;
      vias = subst (λ (vs : List Via). All On vs) (sym c.in_ok-append.ensures) (All-append On c.args.tech.vias c.args.vias c.requires.tech.vias c.requires.vias);
    }
