use Rattle.std.proofs.Common.{refl, subst, ◌≡◌, ◌+◌, ◌++◌, ◌∷◌, [], drop, length, get_or, ap, List, sym, ◌∙◌, rules, add-one, drop-cons, ◌<◌, arith}
use Rattle.std.proofs.lemmas.List.{drop_all, append-nil}
use Rattle.std.proofs.lemmas.List.Elements.{All-get_or}
use Rattle.def_wires.specs.declared.wiring.WireStep.{WireStep}
use Rattle.def_wires.specs.Meaning.{Metal}
use Rattle.def_wires.specs.Sound.{IsStep, IsSpot}
use Rattle.def_wires.proofs.Drawing.{metal_from, metal_from_is, drawn_more, spot_sound}
use Rattle.def_wires.proofs.rectangles.add_path.Goals as goal

pub steps-init : goal.steps-init
steps-init c = record {
  same = ap (λ (ms : List Metal). c.args.metal.now ++ ms) (metal_from_is c.args.tech.now c.args.path.now.width [] c.args.path.now.steps);
  spot = search rules;
}

pub steps-preserved : goal.steps-preserved
steps-preserved c =
    let tech = c.args.tech.now in
    let steps = c.args.path.now.steps in
    let i = c.steps.step-index in
    let s = c.step-item.result in
    let e : c.as_slice-step-items.result.now ≡ steps = c.as_slice-step-items.ensures in
    let lt : i < length steps = omega (arith, ap (λ (v : List WireStep). length v) e) in
    let is : s ≡ get_or steps i s = rw e at c.step-item.is in
    let next : drop i steps ≡ s ∷ drop (i + 1) steps = rw (add-one, drop-cons steps i s, ← is) refl in
    let sound : IsStep tech s = subst (IsStep tech) (sym is) (All-get_or (IsStep tech) steps i s lt c.requires.path.steps) in
    record {
      same = drawn_more tech c.args.path.now.width c.steps.spot c.spot_after-spot.result s (drop i steps) (drop (i + 1) steps) c.steps.metal c.add_step.new.metal _ next c.in_ok-add_step.ensures c.spot_after-spot.ensures c.steps.invariant.same;
      spot = subst IsSpot (sym c.spot_after-spot.ensures) (spot_sound tech c.steps.spot s c.steps.invariant.spot sound);
    }

pub returns : goal.returns
unfolding metal_from
returns c =
    let steps = c.args.path.now.steps in
    let e : c.as_slice-step-items.result.now ≡ steps = c.as_slice-step-items.ensures in
    let none : drop c.steps.step-index steps ≡ [] = drop_all c.steps.step-index steps (omega (arith, c.steps-test.false, ap (λ (v : List WireStep). length v) e)) in
    rw (none, append-nil) at c.steps.invariant.same
