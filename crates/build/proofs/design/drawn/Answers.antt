use Rattle.std.proofs.Common.{◌≡◌, ◌∙◌, List, All, length, sym, subst}
use Rattle.std.specs.List.{AllZip}
use Rattle.rt_base.specs.declared.tech.Shape.{Shape}
use Rattle.rt_base.specs.declared.tech.Via.{Via}
use Rattle.build.specs.Built.{IsViaSaid}
use Rattle.build.specs.Faults.{name_fault}
use Rattle.build.specs.Inputs.{input_by}
use Rattle.build.specs.Metals.{IsOnLayer}
use Rattle.build.specs.Standing.{AreDrawn}
use Rattle.build.specs.Wires.{wiring_tech}
use Rattle.build.proofs.FirstFaults.{few_levels, found_fault, found_memory}
use Rattle.build.proofs.design.drawn.Goals as goal

pub technology-requires-clause-few : goal.technology-requires-clause-few
technology-requires-clause-few c = few_levels (input_by c.args.given.now) c.in_ok-vias.ensures.0

pub returns-in_err-vias : goal.returns-in_err-vias
returns-in_err-vias c =
    let i = input_by c.args.given.now in
    found_fault (AreDrawn i) c.from_residual.result c.in_err-vias.field-0.0 (name_fault i) (name_fault i) c.from_residual.ensures.1 c.in_err-vias.ensures (λ h. h)

pub returns-in_err-tech : goal.returns-in_err-tech
returns-in_err-tech c =
    let i = input_by c.args.given.now in
    found_memory (AreDrawn i) c.from_residual-in_err-tech.result (name_fault i) c.from_residual-in_err-tech.ensures.1

pub returns-in_err-shapes : goal.returns-in_err-shapes
returns-in_err-shapes c =
    let i = input_by c.args.given.now in
    found_memory (AreDrawn i) c.from_residual-in_err-shapes.result (name_fault i) c.from_residual-in_err-shapes.ensures.1

pub returns : goal.returns
returns c =
    let i = input_by c.args.given.now in
    let vias : c.as_slice.result.now ≡ (wiring_tech (input_by c.args.given.now)).vias = c.as_slice.ensures ∙ c.in_ok-vias.ensures.1.vias in (
      c.in_ok-vias.ensures.0,
      record {
        tech_of = record {
          layers = c.in_ok-tech.ensures.layers;
          vias = subst (λ (vs : List Via). AllZip (IsViaSaid c.in_ok-tech.tech) vs c.in_ok-tech.tech.vias) vias c.in_ok-tech.ensures.vias;
        };
        is_tech = c.in_ok-tech.ensures.fits;
        shapes = c.from_vec.ensures ∙ c.in_ok-shapes.ensures.shapes;
        layers = subst (λ (ss : List Shape). All (IsOnLayer (length i.lef.layers)) ss) (sym c.from_vec.ensures) c.in_ok-shapes.ensures.layers;
      },
    )
