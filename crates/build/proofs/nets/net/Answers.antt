use Rattle.std.proofs.Common.{◌≡◌, ◌∙◌, ℕ, ◌^◌, List, All, refl, sym, ap, subst, arith}
use Rattle.std.specs.List.{AllZip, enumerate_from}
use Rattle.rt_base.specs.Sides.{Sides}
use Rattle.rt_base.specs.Ranges.{AreSidesWithin}
use Rattle.track_graph.specs.declared.design.Pin.{Pin}
use Rattle.track_graph.specs.Designs.{IsPin}
use Rattle.build.specs.Built.{IsPinOf, guide_of}
use Rattle.build.specs.Ground.{input_on, system_on}
use Rattle.build.proofs.GuideLemmas.{guide_near}
use Rattle.build.proofs.Steps.{length-enumerate_from, all_numbered}
use Rattle.build.proofs.TechLemmas.{AllZip-length}
use Rattle.build.proofs.nets.net.Goals as goal

pub returns : goal.returns
returns c =
    let i = input_on c.args.on.now in
    let g = system_on c.args.on.now in
    let layers = c.args.on.now.tech.now.layers in
    let said = IsPinOf (input_on c.args.on.now).lef (input_on c.args.on.now).def g in
    let pins = c.in_ok-pins.field-0 in
    let guide : c.in_ok-guide.field-0 ≡ guide_of (input_on c.args.on.now).def.die c.args.on.now.tech.now.layers (input_on c.args.on.now).guides c.args.said.now.name = c.in_ok-guide.ensures ∙ ap (guide_of i.def.die layers i.guides) c.bytes.ensures in
    let zip : AllZip said (enumerate_from 0 c.args.said.now.pins) pins = subst (λ (cs : List (List ℕ × List ℕ)). AllZip said (enumerate_from 0 cs) pins) c.as_slice.ensures c.in_ok-pins.ensures.said in
    record {
      is_net_of = record {
        name = c.in_ok-copy_name.ensures;
        pins = zip;
        guide = guide;
        kind = c.kind.ensures;
        close = refl;
      };
      is_net = record {
        pin_count = omega (arith, AllZip-length said (enumerate_from 0 c.args.said.now.pins) pins zip, length-enumerate_from 0 c.args.said.now.pins, c.requires.said.pin_count);
        pins = λ k p at. all_numbered (λ (q : ℕ × Pin). IsPin g q.0 q.1) pins k p c.in_ok-pins.ensures.fits at;
        guide = subst (λ (boxes : List (ℕ × Sides)). All (λ (b : ℕ × Sides). AreSidesWithin (2 ^ 32) b.1) boxes) (sym guide) (guide_near i layers c.args.said.now.name c.requires.ground.is_input);
      };
    }
