use Rattle.std.proofs.Common.{◌≡◌, ◌^◌, ◌++◌, ◌∷◌, [], subst, sym, ◌∙◌, ap, All, List}
use Rattle.std.proofs.lemmas.List.Elements.{All-push, All-nil}
use Rattle.rt_base.specs.Geometry.{hull_of}
use Rattle.rt_base.proofs.Ranges.{hull_within}
use Rattle.def_wires.specs.declared.wiring.WirePath.{WirePath}
use Rattle.def_wires.specs.Sound.{IsWirePath}
use Rattle.def_wires.specs.Options.{rect_path}
use Rattle.def_wires.proofs.Opening.{rect_path_sound}
use Rattle.def_wires.proofs.options.rect_option.Goals as goal

pub returns-clause-sound : goal.returns-clause-sound
returns-clause-sound c =
    let P = IsWirePath c.args.tech.now in
    let r = hull_of c.in_ok-p.p c.in_ok-q.q in
    let path : c.in_ok-rect_path.field-0 ≡ rect_path c.in_ok-layer.layer r = rw c.hull.ensures at c.in_ok-rect_path.ensures in
    let sound : P c.in_ok-rect_path.field-0 = subst P (sym path) (rect_path_sound c.args.tech.now c.in_ok-layer.layer r c.in_ok-layer.ensures.inside (hull_within (2 ^ 30) c.in_ok-p.p c.in_ok-q.q c.in_ok-p.ensures.small c.in_ok-q.ensures.small)) in
    subst (All P) (sym c.in_ok-push.ensures.ok) (All-push P c.new-paths.result c.in_ok-rect_path.field-0 (subst (All P) (sym c.new-paths.ensures) (All-nil P)) sound)
