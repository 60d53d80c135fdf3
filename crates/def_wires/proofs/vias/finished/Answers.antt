use Rattle.std.proofs.Common.{◌+◌, ◌^◌, length, All, subst, sym}
use Rattle.def_wires.specs.Sound.{IsOn}
use Rattle.def_wires.proofs.Generating.{OnLayer, generated_on}
use Rattle.def_wires.proofs.vias.finished.Goals as goal

pub returns-in_ok-generated_rects-in-Some-clause-sound : goal.returns-in_ok-generated_rects-in-Some-clause-sound
returns-in_ok-generated_rects-in-Some-clause-sound c =
    let n = length c.args.tech.now.layers in
    let on = subst (All (OnLayer n)) (sym c.in_ok-generated_rects-in-Some.ensures.value) (generated_on n c.in-Some.form c.in-Some.ensures.on) in
    let within = c.in_ok-generated_rects-in-Some.ensures.within in
    subst (All (IsOn n (2 ^ 60 + 2 ^ 30))) (sym c.from_vec.ensures) (λ k d lt. (on k d lt, within k d lt))
